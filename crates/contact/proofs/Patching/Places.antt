-- Where a key of a PatchObject stands in the text of a card: at one place, which is the one that is found (`key_places`), and there no other key stands
-- (`key_of_place`).
-- Assumes nothing.
use mathlib.Core.Path.{◌≡◌, refl, sym, ap, ◌∙◌, subst}
use mathlib.Core.Bool.{true}
use mathlib.Core.List.{List}
use mathlib.Core.Logic.{◌↔◌, ◌≢◌}
use mathlib.Core.Option.{none, some, none-ne-some, some-injective}
use Prim.Native.Nat.{ℕ, ◌+◌, ◌-◌, ◌≤◌}
use native.Mathlib.Omega.{arith}
use lib.ListN.{length}
use Rattle.text.specs.Limits.{Limits}
use Rattle.text.specs.Text.{bytes, byte_at}
use Rattle.text.specs.Strings.{name_of}
use Rattle.text.specs.Tree.{Bracket, square, curly, Forest, leaf, node}
use Rattle.text.specs.Tree as T
use Rattle.text.specs.Firsts.{inside_at}
use Rattle.text.specs.Placed.{Spot, Placed, token, box}
use Rattle.text.specs.Doc.{Name, Doc, object, Members, member, Property, property, seek, members_of, doc_of}
use Rattle.text.specs.Distinct.{Distinct, DistinctMembers}
use Rattle.text.proofs.Promise.{promised}
use Rattle.text.proofs.Grammar.Accepted.{accepts}
use Rattle.contact.specs.Judging.{CardText}
use Rattle.contact.specs.Pointer.{last}
use Rattle.contact.specs.Conditions.{HasKey, first, later, PatchOf, PatchUnder, patch_under}
use Rattle.contact.specs.Places.{InsideOf, there, past_leaf, past_node, NamedAt, leaf_named, node_named, after_leaf, after_node, KeyStands, inside_named, quote_of, key_place}
use Rattle.contact.proofs.Members.{has_seek}
use Rattle.contact.proofs.Patching.Names.{same_yes, same_no, by_name}
use Rattle.contact.proofs.Patching.Start.{patch_iff}
use Rattle.contact.proofs.Patching.Rearranged.{not_first}
use Rattle.contact.proofs.Patching.Distinct.{find_distinct}

-- ---- members and their keys

key_found : {n : Name} {ms : Members} → HasKey n ms → seek n ms ≢ none
key_found {n} (first {label = label} {d = d} {ms = ms}) h = (not_first n n label d ms h).0 refl
key_found {n} (later {n = m} {label = label} {d = d} {ms = ms} x) h = key_found x (not_first n m label d ms h).1

-- a key that isn't there has another name
pub other_key : {m n : Name} (ms : Members) → seek m ms ≡ none → HasKey n ms → m ≢ n
other_key ms h x e = key_found x (subst (λ (k : Name). seek k ms ≡ none) e h)

later_of : {m n : Name} {label : List ℕ} {d : Doc} {ms : Members} → m ≢ n → HasKey n (member m label d ms) → HasKey n ms
later_of ne first = absurd (ne refl)
later_of ne (later x) = x

-- what is found is the value
content_of_lem : {label other : List ℕ} {d e : Doc} → some (property label d) ≡ some (property other e) → d ≡ e
content_of_lem {label} {other} {d} {e} h = ap (λ (s : Property). s.content) (some-injective (property label d) (property other e) h)

object_members : {ms ns : Members} → object ms ≡ object ns → ms ≡ ns
object_members e = cc

module _ (t : List ℕ) where
  -- ---- values whose names are distinct: each name is at one place

  module _ {n : Name} where
    inside_key : {f inside : Forest} → InsideOf t n f inside → HasKey n (members_of t f)
    unfolding members_of
    inside_key (there e) = rw (← e) first
    inside_key (past_leaf x) = later (inside_key x)
    inside_key (past_node x) = later (inside_key x)

    named_key : {f : Forest} {place : ℕ} → NamedAt t n f place → HasKey n (members_of t f)
    unfolding members_of
    named_key (leaf_named e q) = rw (← e) first
    named_key (node_named e q) = rw (← e) first
    named_key (after_leaf x) = later (named_key x)
    named_key (after_node x) = later (named_key x)

    one_inside : {f inside : Forest} → DistinctMembers (members_of t f) → InsideOf t n f inside → inside_named t n f ≡ inside
    unfolding members_of inside_named
    one_inside h (there e) = simp (same_yes e)
    one_inside h (past_leaf {rest = rest} x) = simp (same_no (other_key (members_of t rest) h.0 (inside_key x))) (one_inside h.2 x)
    one_inside h (past_node {rest = rest} x) = simp (same_no (other_key (members_of t rest) h.0 (inside_key x))) (one_inside h.2 x)

    one_quote : {f : Forest} {place : ℕ} → DistinctMembers (members_of t f) → NamedAt t n f place → quote_of t n f ≡ place
    unfolding members_of quote_of
    one_quote h (leaf_named e q) = simp (same_yes e) (omega arith)
    one_quote h (node_named e q) = simp (same_yes e) (omega arith)
    one_quote h (after_leaf {rest = rest} x) = simp (same_no (other_key (members_of t rest) h.0 (named_key x))) (one_quote h.2 x)
    one_quote h (after_node {rest = rest} x) = simp (same_no (other_key (members_of t rest) h.0 (named_key x))) (one_quote h.2 x)

  -- ---- values that stand in the text: what a search finds is there

  -- an object is found under the name n: there it stands, and these are its values
  record Entered (n : Name) (f : Forest) (ms : Members) : Type 0 where
    inner : Forest
    inside : InsideOf t n f inner
    members : members_of t inner ≡ ms
    from : ℕ
    to : ℕ
    placed : Placed t curly inner from to

  further : {n : Name} {f g : Forest} {ms : Members} → ((inner : Forest) → InsideOf t n f inner → InsideOf t n g inner) → Entered n f ms → Entered n g ms
  further on x = record { inner = x.inner; inside = on x.inner x.inside; members = x.members; from = x.from; to = x.to; placed = x.placed }

  entered : {b : Bracket} {from to : ℕ} {n : Name} {label : List ℕ} {ms : Members} (f : Forest) → Placed t b f from to
      → seek n (members_of t f) ≡ some (property label (object ms)) → Entered n f ms
  unfolding members_of
  entered T.none p e = absurd (none-ne-some _ e)
  entered {n = n} (leaf kind ns ne at end rest) (token s k p) e =
      by_name (name_of t ns ne) n
      (λ q. let d = content_of_lem (simp (same_yes q) at e) in let z : ◌≡◌ {A = ℕ} 0 1 = cc in absurd (omega arith))
      (λ m. further (λ inner x. past_leaf x) (entered rest p (simp (same_no m) at e)))
  entered {n = n} (node square ns ne at end inside rest) (box s c i p) e =
      by_name (name_of t ns ne) n
      (λ q. let d = content_of_lem (simp (same_yes q) at e) in let z : ◌≡◌ {A = ℕ} 0 1 = cc in absurd (omega arith))
      (λ m. further (λ inner x. past_node x) (entered rest p (simp (same_no m) at e)))
  entered {n = n} (node curly ns ne at end inside rest) (box s c i p) e =
      by_name (name_of t ns ne) n
      (λ q. record { inner = inside; inside = there q; members = object_members (content_of_lem (simp (same_yes q) at e)); from = _; to = _; placed = i })
      (λ m. further (λ inner x. past_node x) (entered rest p (simp (same_no m) at e)))

  -- a key of an object that stands in the text stands behind its quote
  key_named : {from to : ℕ} {key : Name} (f : Forest) → Placed t curly f from to → HasKey key (members_of t f)
      → NamedAt t key f (quote_of t key f) × (byte_at t (quote_of t key f) ≡ 34)
  unfolding members_of quote_of
  key_named T.none p x = elim x [ ]
  key_named {key = key} (leaf kind ns ne at end rest) (token s k p) x =
      let quoted = s.name.quoted in
      by_name (name_of t ns ne) key
      (λ q. simp (same_yes q) (leaf_named {place = ns - 1} q (omega (arith, quoted.first)), quoted.opens))
      (λ m. let (y, quote) = key_named rest p (later_of m x) in simp (same_no m) (after_leaf y, quote))
  key_named {key = key} (node b ns ne at end inside rest) (box s c i p) x =
      let quoted = s.name.quoted in
      by_name (name_of t ns ne) key
      (λ q. simp (same_yes q) (node_named {place = ns - 1} q (omega (arith, quoted.first)), quoted.opens))
      (λ m. let (y, quote) = key_named rest p (later_of m x) in simp (same_no m) (after_node y, quote))

  -- names stand one after the other, so no two start at one place
  past_name : {kind from ns ne at end place : ℕ} → Spot t curly from kind ns ne at end → ns ≡ place + 1 → end ≤ place → ⊥
  past_name s q l = omega (arith, s.name.quoted.ordered, s.name.before, s.some)

  name_behind : {from to place : ℕ} {key : Name} {f : Forest} → Placed t curly f from to → NamedAt t key f place → from ≤ place
  name_behind (Rattle.text.specs.Placed.nothing _) x = elim x [ ]
  name_behind (token s k p) (leaf_named e q) = omega (arith, s.name.after)
  name_behind (token s k p) (after_leaf x) = omega (arith, s.start, s.some, name_behind p x)
  name_behind (box s c i p) (node_named e q) = omega (arith, s.name.after)
  name_behind (box s c i p) (after_node x) = omega (arith, s.start, s.some, name_behind p x)

  one_name : {from to place : ℕ} {key other : Name} {f : Forest} → Placed t curly f from to → NamedAt t key f place → NamedAt t other f place → key ≡ other
  one_name (Rattle.text.specs.Placed.nothing _) x _ = elim x [ ]
  one_name (token s k p) (leaf_named e q) (leaf_named e' q') = sym e ∙ e'
  one_name (token s k p) (leaf_named e q) (after_leaf y) = absurd (past_name s q (name_behind p y))
  one_name (token s k p) (after_leaf x) (leaf_named e q) = absurd (past_name s q (name_behind p x))
  one_name (token s k p) (after_leaf x) (after_leaf y) = one_name p x y
  one_name (box s c i p) (node_named e q) (node_named e' q') = sym e ∙ e'
  one_name (box s c i p) (node_named e q) (after_node y) = absurd (past_name s q (name_behind p y))
  one_name (box s c i p) (after_node x) (node_named e q) = absurd (past_name s q (name_behind p x))
  one_name (box s c i p) (after_node x) (after_node y) = one_name p x y

  -- ---- the card

  -- a document that is an object, by its tree
  root_object : {b : Bracket} {from to : ℕ} (f : Forest) (os : Members) → Placed t b f from to → doc_of t f ≡ object os
      → (members_of t (inside_at f) ≡ os) × ((low : ℕ) × (high : ℕ) × Placed t curly (inside_at f) low high)
  unfolding doc_of
  root_object T.none os p e = let z : ◌≡◌ {A = ℕ} 0 1 = cc in absurd (omega arith)
  root_object (leaf kind ns ne at end rest) os p e = let z : ◌≡◌ {A = ℕ} 0 1 = cc in absurd (omega arith)
  root_object (node square ns ne at end inside rest) os p e = let z : ◌≡◌ {A = ℕ} 0 1 = cc in absurd (omega arith)
  root_object (node curly ns ne at end inside rest) os (box s c i p) e = (object_members e, (_, _, i))

  -- where the PatchObject of the language stands, and that it is found there
  record Found (f : Forest) (lang : Name) (ms : Members) : Type 0 where
    languages : Forest
    entries : Forest
    localizations : InsideOf t (bytes "localizations") (inside_at f) languages
    patch : InsideOf t lang languages entries
    members : members_of t entries ≡ ms
    from : ℕ
    to : ℕ
    placed : Placed t curly entries from to
    outer_names : DistinctMembers (members_of t (inside_at f))
    language_names : DistinctMembers (members_of t languages)
    key_names : DistinctMembers (members_of t entries)

  found_patch : {from to : ℕ} (f : Forest) (lang : Name) (ms : Members) (card : Doc) → Placed t square f from to → Distinct card → doc_of t f ≡ card
      → PatchUnder lang ms card → Found f lang ms
  found_patch f lang ms card p h e (patch_under {os = os} {ls = ls} (outer, x) (label, y)) =
      let (is, (low, high, q)) = root_object f os p e in
      let a : Entered (bytes "localizations") (inside_at f) ls = entered (inside_at f) q (ap (seek (bytes "localizations")) is ∙ has_seek x) in
      let b : Entered lang a.inner ms = entered a.inner a.placed (ap (seek lang) a.members ∙ has_seek y) in
      let k : DistinctMembers ls = find_distinct (last (bytes "localizations")) (object os) (property outer (object ls)) h (has_seek x) in
      let l : DistinctMembers ms = find_distinct (last lang) (object ls) (property label (object ms)) k (has_seek y) in
      record {
        languages = a.inner;
        entries = b.inner;
        localizations = a.inside;
        patch = b.inside;
        members = b.members;
        from = b.from;
        to = b.to;
        placed = b.placed;
        outer_names = rw is h;
        language_names = rw a.members k;
        key_names = rw b.members l;
      }

  module _ {f : Forest} {lang : Name} {ms : Members} (x : Found f lang ms) where
    -- a key that stands in the text is one of those entries
    stands_in : {key : Name} {place : ℕ} → KeyStands t f lang key place → NamedAt t key x.entries place
    stands_in {key} {place} k =
        let a : k.languages ≡ x.languages = sym (one_inside x.outer_names k.localizations) ∙ one_inside x.outer_names x.localizations in
        let p : InsideOf t lang x.languages k.entries = rw (← a) k.patch in
        let b : k.entries ≡ x.entries = sym (one_inside x.language_names p) ∙ one_inside x.language_names x.patch in
        rw (← b) k.stands

    found_place : (key : Name) → key_place t f lang key ≡ quote_of t key x.entries
    unfolding key_place
    found_place key = rw (one_inside x.outer_names x.localizations, one_inside x.language_names x.patch)

    stands_there : (key : Name) → HasKey key ms → KeyStands t f lang key (key_place t f lang key)
    stands_there key h =
        let (named, quote) = key_named {key = key} x.entries x.placed (rw x.members h) in
        rw (found_place key)
        (record { languages = x.languages; entries = x.entries; localizations = x.localizations; patch = x.patch; stands = named; quote = quote })

-- ---- the theorems

module _ (L : Limits) (unique : L.unique ≡ true) (words : ℕ) (t : List ℕ) (f : Forest) (c : CardText L words t f) (lang : Name) (ms : Members)
    (patch : PatchOf (doc_of t f) lang ms) where
  found : Found t f lang ms
  found =
      let p = promised L t f (length t) ((accepts L t f).1 c.readable.accepts) in
      found_patch t f lang ms (doc_of t f) p.placed (p.distinct unique) refl ((patch_iff (doc_of t f) lang ms).0 patch)

  pub key_places : (key : Name) → HasKey key ms → (place : ℕ) → KeyStands t f lang key place ↔ (place ≡ key_place t f lang key)
  key_places key x place = (
    λ k. sym (found_place t found key ∙ one_quote t found.key_names (stands_in t found k)),
    λ e. rw e (stands_there t found key x),
  )

  pub key_of_place : (key other : Name) (place : ℕ) → KeyStands t f lang key place → KeyStands t f lang other place → key ≡ other
  key_of_place key other place k j = one_name t found.placed (stands_in t found k) (stands_in t found j)
