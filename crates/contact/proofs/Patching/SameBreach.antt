-- A card with the entries of a PatchObject in another order has the same first breach: `order_breach`. The entries aren't judged, and they take up
-- as many rows.
-- Assumes nothing.
use Prim.Native.Nat.{ℕ, ◌+◌}
use mathlib.Core.Path.{◌≡◌, refl, sym, ap, ap₂, ◌∙◌}
use mathlib.Core.Bool.{Bool, true, false, not, cond, ◌&&◌, ◌||◌}
use mathlib.Core.Logic.{◌≢◌}
use mathlib.Core.List.{List, [], ◌∷◌}
use mathlib.Core.Option.{Option}
use Prim.Native.String.{String}
use Rattle.laws.specs.Order.{same, order_of}
use Rattle.laws.specs.Tests.{every, all_marks}
use Rattle.laws.specs.Each.{Each, more}
use Rattle.laws.proofs.Decides.{Decides, told, unless, bytes_same}
use Rattle.laws.proofs.Tests.{each_test}
use Rattle.laws.proofs.Bools.{by_test}
use Rattle.text.specs.Text.{bytes}
use Rattle.text.specs.Doc.{Name, Doc, scalar, array, object, Members, empty, member, count_of, seek, is_there}
use Rattle.contact.specs.Schema.{ObjectType, Keys, Key, Ty, any, object_of, map_of, any_object, card, Known, Rule, one_of, needs, needs_string, needs_true, separators, not_only, names_in, types, record_of, properties, rules_of, type_in}
use Rattle.contact.specs.Rules.{present, is_true, is_this_string, marks, any_counts, badly_separated, breaks_one, breaks_any}
use Rattle.contact.specs.Judge.{lacking, row_number, member_type, key_fits, Breach, nothing, on_this_row, or_else, breach_of, breach_among, card_breach}
use Rattle.contact.specs.Patching.{Rearranged, rearranged, AtMember, this_one, later_one, InMember, in_member, OrderOnly}
use Rattle.contact.proofs.Patching.Names.{same_no}
use Rattle.contact.proofs.Patching.Rearranged.{rearranged_count, in_count}

-- ---- below a PatchObject nothing is asked

mutual
  unfolding breach_of breach_among row_number

  any_clean : (row : ℕ) (d : Doc) → breach_of any true row d ≡ nothing
  any_clean row (scalar kind token) = refl
  any_clean row (array ms) = any_among [] (row + 1) ms
  any_clean row (object ms) = any_among [] (row + 1) ms

  any_among : (passed : List Name) (row : ℕ) (ms : Members) → breach_among any passed row ms ≡ nothing
  any_among passed row empty = refl
  any_among passed row (member n label d ms) = ap₂ or_else (any_clean row d) (any_among (n ∷ passed) (row + count_of d) ms)

entries_clean : (passed : List Name) (row : ℕ) (ms : Members) → breach_among any_object passed row ms ≡ nothing
unfolding breach_among
entries_clean passed row empty = refl
entries_clean passed row (member n label d ms) = ap₂ or_else (any_clean row d) (entries_clean (n ∷ passed) (row + count_of d) ms)

-- a PatchObject breaks what its key does, if anything
patch_alike : (key : Bool) (row : ℕ) (ms ns : Members) → breach_of any_object key row (object ms) ≡ breach_of any_object key row (object ns)
unfolding breach_of row_number
patch_alike false row ms ns = refl
patch_alike true row ms ns = entries_clean [] (row + 1) ms ∙ sym (entries_clean [] (row + 1) ns)

-- ---- a difference in one member, of as many rows and of the same breach

module _ {n : Name} {R : Doc → Doc → Type 0} (counts : (d e : Doc) → R d e → count_of d ≡ count_of e) where
  at_among : (ty : Ty) → ((k : Key) (row : ℕ) (d e : Doc) → R d e → breach_of (member_type ty n d) (key_fits ty k) row d ≡ breach_of (member_type ty n e) (key_fits ty k) row e)
      → (passed : List Name) (row : ℕ) {ms ns : Members} → AtMember n R ms ns → breach_among ty passed row ms ≡ breach_among ty passed row ns
  unfolding breach_among
  at_among ty alike passed row (this_one {d = d} {e = e} {ms = ms} r) =
      ap₂ or_else (alike (record { name = n; before = passed }) row d e r) (ap (λ (k : ℕ). breach_among ty (n ∷ passed) (row + k) ms) (counts d e r))
  at_among ty alike passed row (later_one {m = m} {d = d} h x) =
      ap (or_else (breach_of (member_type ty m d) (key_fits ty (record { name = m; before = passed })) row d)) (at_among ty alike (m ∷ passed) (row + count_of d) x)

-- ---- what is asked of the members

module _ {n : Name} {R : Doc → Doc → Type 0} where
  at_there : {ms ns : Members} → AtMember n R ms ns → (m : Name) → is_there (seek m ms) ≡ is_there (seek m ns)
  at_there (this_one r) m = by_test (same n m) (λ b. simp b) (λ b. simp b)
  at_there (later_one {m = k} h x) m = by_test (same k m) (λ b. simp b) (λ b. simp b (at_there x m))

  at_else : {ms ns : Members} → AtMember n R ms ns → (m : Name) → n ≢ m → seek m ms ≡ seek m ns
  at_else (this_one r) m h = simp (same_no h)
  at_else (later_one {m = k} g x) m h = by_test (same k m) (λ b. simp b) (λ b. simp b (at_else x m h))

  at_lacking : (ks : List Known) {ms ns : Members} → AtMember n R ms ns → lacking ks ms ≡ lacking ks ns
  unfolding lacking
  at_lacking [] x = refl
  at_lacking (k ∷ ks) x = ap₂ (λ (a b : Bool). cond (k.mandatory && not a) true b) (at_there x k.spelling) (at_lacking ks x)

-- ---- cards

-- whatever keys the languages are
lang_breach : {lang : Name} (keys : Keys) (row : ℕ) (d e : Doc) → InMember lang Rearranged d e
    → breach_of (map_of keys any_object) true row d ≡ breach_of (map_of keys any_object) true row e
unfolding breach_of row_number
lang_breach {lang = lang} keys row d e (in_member x) =
    at_among rearranged_count (map_of keys any_object) (λ k r y z. alike (key_fits (map_of keys any_object) k) r y z) [] (row + 1) x
  where
    alike : (key : Bool) (row : ℕ) (d e : Doc) → Rearranged d e → breach_of any_object key row d ≡ breach_of any_object key row e
    alike key row d e (rearranged {ms = ms} {ns = ns} σ) = patch_alike key row ms ns

localizations_type : (keys : Keys) × (type_in (properties card) (bytes "localizations") ≡ map_of keys any_object)
unfolding type_in record_of types order_of
localizations_type = (_, refl)

-- the member counts for no rule of a card
unruled : every (λ r. every (λ n. not (same (bytes "localizations") (bytes n))) (names_in r)) (rules_of card) ≡ true
unfolding every record_of types order_of
unruled = refl

-- another name
abbrev Other : String → Type 0
Other n = bytes "localizations" ≢ bytes n

other_test : (n : String) → Decides (Other n) (not (same (bytes "localizations") (bytes n)))
other_test n = unless (bytes_same (bytes "localizations") (bytes n))

others : Each (λ r. Each Other (names_in r)) (rules_of card)
others = told (each_test _ (λ r. each_test _ other_test (names_in r)) (rules_of card)) unruled

module _ {R : Doc → Doc → Type 0} {ms ns : Members} (x : AtMember (bytes "localizations") R ms ns) (o : ObjectType) where
  same_present : (m : String) → Other m → present o (bytes m) ms ≡ present o (bytes m) ns
  unfolding present
  same_present m h = rw (at_else x (bytes m) h)

  same_any : (names : List String) → Each Other names → any_counts o ms names ≡ any_counts o ns names
  unfolding any_counts
  same_any [] hs = refl
  same_any (m ∷ names) (more h hs) = ap₂ (λ (p : Option Doc) (b : Bool). is_there p || b) (same_present m h) (same_any names hs)

  same_one : (r : Rule) → Each Other (names_in r) → breaks_one o ms r ≡ breaks_one o ns r
  same_one (one_of names) hs = ap not (same_any names hs)
  same_one (needs m names) (more h hs) = ap₂ (λ (p : Option Doc) (b : Bool). is_there p && not b) (same_present m h) (same_any names hs)
  same_one (needs_string m k content) (more h (more g hs)) =
      ap₂ (λ (p q : Option Doc). is_there p && not (is_this_string (bytes content) q)) (same_present m h) (same_present k g)
  same_one (needs_true m k) (more h (more g hs)) = ap₂ (λ (p q : Option Doc). is_there p && not (is_true q)) (same_present m h) (same_present k g)
  same_one (separators m order entry) (more h (more g hs)) =
      ap₂ (λ (p q : Option Doc). badly_separated (marks p) (is_true q)) (same_present m h) (same_present order g)
  same_one (not_only m entry) (more h hs) = ap (λ (p : Option Doc). is_there p && all_marks (marks p)) (same_present m h)

  same_rules : (rs : List Rule) → Each (λ r. Each Other (names_in r)) rs → breaks_any o ms rs ≡ breaks_any o ns rs
  unfolding breaks_any
  same_rules [] hs = refl
  same_rules (r ∷ rs) (more h hs) = ap₂ (λ (a b : Bool). cond a true b) (same_one r h) (same_rules rs hs)

module _ {R : Doc → Doc → Type 0} {ms ns : Members} (x : AtMember (bytes "localizations") R ms ns) where
  card_number : row_number (object_of card) true (object ms) ≡ row_number (object_of card) true (object ns)
  unfolding row_number
  card_number = rw (at_lacking (properties card) x, same_rules x card (rules_of card) others)

pub order_breach : (lang : Name) (one other : Doc) → OrderOnly lang one other → card_breach one ≡ card_breach other
unfolding breach_of
order_breach lang one other (in_member x) =
    ap₂ (λ (k : ℕ) (b : Breach). on_this_row k 0 b) (card_number x)
    (at_among (in_count rearranged_count) (object_of card) (λ k row d e r. rw localizations_type.1 (lang_breach localizations_type.0 row d e r)) [] 1 x)
