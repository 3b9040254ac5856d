-- The localized card, written from the rows of the entries:
--     put-astray, put-fitting       sorted entries: one leads astray; or 27 is broken, or the card was written
--     sorting                       the members of the PatchObject are listed in the order of their pointers, and their places are known
--     made-broken, made-sorted      a key is at fault; or it comes to what sorted entries make of the card
-- Assumes nothing.
use Rattle.std.specs.Prelude.{Result, Ok, Err}
use Prim.Native.Nat.{ℕ, ◌+◌, ◌<◌}
use mathlib.Core.Path.{◌≡◌, refl, sym, ap, ap₂, subst, ◌∙◌}
use mathlib.Core.Bool.{true}
use mathlib.Core.List.{List}
use native.Mathlib.Omega.{arith}
use lib.ListN.{length}
use lib.Seq.{length-sets}
use Rattle.laws.specs.Sorting.{Arranged}
use Rattle.text.specs.Tree.{Forest}
use Rattle.text.specs.Firsts.{inside_at}
use Rattle.text.specs.Doc.{Name, Doc, Members, members_of, doc_of}
use Rattle.text.specs.Distinct.{DistinctMembers}
use Rattle.text.specs.Writing.{written}
use Rattle.json_reader.specs.Rows.{below_in}
use Rattle.json_reader.proofs.Seeking.{members_stand, inside_kinds}
use Rattle.contact.specs.Pointer.{Pointer, bad_tilde}
use Rattle.contact.specs.Patch.{Entry, entries_of, is_in_array, is_no_object}
use Rattle.contact.specs.Faults.{own_key, walks_to}
use Rattle.contact.specs.Entries.{ApartFrom, NoClash, Shuffled}
use Rattle.contact.specs.Localize.{start, patched_doc}
use Rattle.contact.specs.declared.LocalRefusal.{LocalRefusal}
use Rattle.contact.proofs.Patching.Apart.{clash_apart, to_any_clash}
use Rattle.contact.proofs.Patching.Entries.{perm_parents}
use Rattle.contact.proofs.Patching.Faults.{shuffled_sym, key_order_same, clash_order}
use Rattle.contact.proofs.Patching.Order.{any_order}
use Rattle.contact.proofs.Patching.Together.{shuffled_entries}
use Rattle.patch.specs.Children.{Held}
use Rattle.patch.specs.Entries.{most_entries, Collected}
use Rattle.patch.specs.Tails.{tail_order, BeginAlike}
use Rattle.patch.specs.Runs.{LeadsAll, leads_none, leads_more, InOrder, asc_none, asc_more}
use Rattle.output.specs.Written.{full, Wrote}
use Rattle.patch.specs.Conditions.{key_fault, walk_fault, ListedPlaces, condition_of, FirstKey}
use Rattle.patch.specs.Patched.{Said, BaseAt}
use Rattle.patch.specs.Drafts.{Draft, unless_broken, unless_astray, entries_draft, Countable, fitting_of, Drafted, PutSorted, EntriesUpTo, PlacesOf, Makes}
use Rattle.patch.proofs.Listing.Kept.{placed_kept, keys_kept, walks_kept}
use Rattle.patch.proofs.Listing.Sorting.{arranged_all}
use Rattle.patch.proofs.Listing.Orders.{Resorted, resorted}
use Rattle.patch.proofs.Listing.Places.{rows_listed, rows_places, sorted_places}
use Rattle.patch.proofs.Putting.Cards.{stripped_all, wrote_count}
use Rattle.patch.proofs.Drafting.Children.{inside_few}

-- ---- sorted entries

leads_apart : {p : Pointer} {es : List Entry} → LeadsAll p es → ApartFrom p es
leads_apart leads_none = tt
leads_apart {p} (leads_more {q = q} o c l) = (clash_apart p q c, leads_apart l)

-- entries that ascend do not clash
apart : {es : List Entry} → InOrder es → NoClash es
apart asc_none = tt
apart (asc_more l a) = (leads_apart l, apart a)

-- the card was put as the sorted entries leave it, and what their walks come to is told
abbrev pub PutTold : (card ctable : List ℕ) → (leave : ℕ) → (text table rows : List ℕ) → (n shared : ℕ) → (old new : List ℕ) → (count : ℕ) → Result Unit LocalRefusal → Type 0
PutTold card ctable leave text table rows n shared old new count condition =
    (place : Name → ℕ) (g : Forest) (ms : Members) → BaseAt card ctable leave 0 true g → Said text table rows 0 n 0 ms
    → BeginAlike text table rows n shared → ListedPlaces text table rows n place
    → Wrote old 0 (written (patched_doc (doc_of card g) ms)) new count × (condition ≡ condition_of place (walk_fault (start (doc_of card g)) ms))

module _ {card ctable text table rows old new : List ℕ} {leave n shared count : ℕ} {condition : (Result Unit LocalRefusal)}
    (put : PutTold card ctable leave text table rows n shared old new count condition) where
  pub put_astray : {q : LocalRefusal} → condition ≡ Err q → PutSorted card ctable leave text table rows n shared old new (Err q)
  put_astray {q} e place g ms b s alike p few =
      let (w, told) = put place g ms b s alike p in
      subst (λ (c : Result Unit LocalRefusal). Drafted (unless_astray c (written (patched_doc (doc_of card g) ms))) old new (Err q)) (sym e ∙ told) (refl, w.out)

  -- 27, or the card was written
  pub put_fitting : condition ≡ (Ok tt) → {a : (Result ℕ LocalRefusal)} → a ≡ fitting_of count (length new) → PutSorted card ctable leave text table rows n shared old new a
  put_fitting e {a} fits place g ms b s alike p few =
      subst (λ (c : Result Unit LocalRefusal). Drafted (unless_astray c text') old new a) (sym is) (fits ∙ ap₂ fitting_of counted long, w.out)
    where
      text' : List ℕ
      text' = written (patched_doc (doc_of card g) ms)

      w : Wrote old 0 text' new count
      w = (put place g ms b s alike p).0

      d : Doc
      d = start (doc_of card g)

      is : condition_of place (walk_fault d ms) ≡ (Ok tt)
      is = sym (put place g ms b s alike p).1 ∙ e

      no_clash_lem : NoClash (entries_of ms)
      no_clash_lem = apart (rw (stripped_all ms) at s.ascending)

      counted : count ≡ length text'
      counted = wrote_count w (few no_clash_lem (walks_kept d ms (placed_kept place (walk_fault d ms) is)))

      -- the output keeps its length
      long : length new ≡ length old
      long = ap length w.out ∙ length-sets old 0 text'

-- ---- the members in another order

module _ {ms ns : Members} (σ : Shuffled ms ns) where
  same_keys : key_fault ms ≡ key_fault ns
  same_keys = rw (key_order_same σ bad_tilde, key_order_same σ own_key, clash_order σ)

  same_walks : (d : Doc) → walk_fault d ms ≡ walk_fault d ns
  same_walks d = rw (key_order_same σ (walks_to is_in_array d), key_order_same σ (walks_to is_no_object d))

  module _ (card : Doc) (nc : NoClash (entries_of ms)) where
    same_card : patched_doc card ms ≡ patched_doc card ns
    same_card = any_order (start card) (entries_of ms) (entries_of ns) (shuffled_entries σ) nc

    same_countable : Countable card ms → Countable card ns
    same_countable few k parents =
        subst (λ (d : Doc). length (written d) < full) same_card
        (few nc (perm_parents (start card) (shuffled_entries (shuffled_sym σ)) parents))

-- ---- by the rows of the entries

-- the members ms are listed in the order of their pointers, and `place` says where the key of each stands
pub record Sorts (text table rows : List ℕ) (n : ℕ) (ms : Members) (place : Name → ℕ) : Type 0 where
  pub order : Resorted text table rows n ms
  pub places : ListedPlaces text table rows n place

-- so it is with the members of the PatchObject at a row
abbrev pub SortsAt : (text table rows : List ℕ) → (n patch : ℕ) → Type 0
SortsAt text table rows n patch =
    (place : Name → ℕ) (p : Forest) → Held table most_entries patch p → DistinctMembers (members_of text (inside_at p)) → PlacesOf text (inside_at p) place
    → Sorts text table rows n (members_of text (inside_at p)) place

pub sorting : {text table old rows : List ℕ} {n patch end : ℕ} → end ≡ patch + 1 + below_in table patch → Collected table (patch + 1) end old n
    → EntriesUpTo table patch (length old) → {k : ℕ} → BeginAlike text table old n k → Arranged (tail_order text table k) old 0 n rows
    → SortsAt text table rows n patch
sorting {text} {table} {old} e c room common tails place p h d places =
    let a = arranged_all common.like text table c.inside common.all tails in
    let v = h.value in
    let stands = members_stand v.some v.stands e in
    let rows = c.all (inside_at p) stands (omega (arith, e, inside_few h)) (room p h) in
    record {
      order = resorted c.inside a (rows_listed text stands.stands (inside_kinds p v.kinds) rows);
      places = sorted_places text table place c.inside a (rows_places text place stands.stands d places rows);
    }

-- what is found of the keys
found : {text table rows : List ℕ} {n : ℕ} {ms : Members} {place : Name → ℕ} {condition : (Result Unit LocalRefusal)} → FirstKey text table rows n condition
    → Sorts text table rows n ms place → condition_of place (key_fault ms) ≡ condition
found {place = place} first s =
    let o = s.order in ap (condition_of place) (same_keys o.shuffled) ∙ sym (first place o.members o.listed o.sorted s.places)

module _ (card : List ℕ) {ctable text table rows : List ℕ} {leave n patch : ℕ} (sorts : SortsAt text table rows n patch) {condition : (Result Unit LocalRefusal)}
    (first : FirstKey text table rows n condition) where
  pub made_broken : {q : LocalRefusal} (old : List ℕ) → condition ≡ Err q → Makes card ctable leave text table patch old old (Err q)
  made_broken {q} old e place g p b h d places short few =
      let ms = members_of text (inside_at p) in
      let later = unless_astray (condition_of place (walk_fault (start (doc_of card g)) ms)) (written (patched_doc (doc_of card g) ms)) in
      subst (λ (c : Result Unit LocalRefusal). Drafted (unless_broken c later) old old (Err q)) (sym (found first (sorts place p h d places) ∙ e)) (refl, refl)

  pub made_sorted : condition ≡ (Ok tt) → {shared : ℕ} → BeginAlike text table rows n shared → {old new : List ℕ} {a : (Result ℕ LocalRefusal)}
      → PutSorted card ctable leave text table rows n shared old new a
      → Makes card ctable leave text table patch old new a
  made_sorted e alike {old} {new} {a} put place g p b h d places short few =
      subst (λ (x : Draft). Drafted x old new a) (sym is) (put place g ns b said alike s.places (same_countable σ card' no_clash_lem few))
    where
      card' : Doc
      card' = doc_of card g

      ms : Members
      ms = members_of text (inside_at p)

      s : Sorts text table rows n ms place
      s = sorts place p h d places

      ns : Members
      ns = s.order.members

      σ : Shuffled ms ns
      σ = s.order.shuffled

      kept : condition_of place (key_fault ms) ≡ (Ok tt)
      kept = found first s ∙ e

      no_clash_lem : NoClash (entries_of ms)
      no_clash_lem = (keys_kept ms (placed_kept place (key_fault ms) kept)).no_clash

      said : Said text table rows 0 n 0 ns
      said = record { listed = s.order.listed; ascending = s.order.ascending (to_any_clash (entries_of ms) no_clash_lem); short = short }

      is : entries_draft place card' ms ≡ unless_astray (condition_of place (walk_fault (start card') ns)) (written (patched_doc card' ns))
      is =
          ap (λ (c : Result Unit LocalRefusal). unless_broken c (unless_astray (condition_of place (walk_fault (start card') ms)) (written (patched_doc card' ms)))) kept
          ∙ ap₂ (λ f (x : Doc). unless_astray (condition_of place f) (written x)) (same_walks σ (start card')) (same_card σ card' no_clash_lem)
