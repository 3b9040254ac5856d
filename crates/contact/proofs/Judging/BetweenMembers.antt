-- The tests of the rules between members decide what specs/BetweenMembers.antt says:
--     there-test      a member of that name is there
--     rule-test       a rule is broken, by its shape
--     between-test    a rule of the type is broken
-- Assumes nothing.
use Prim.Native.Nat.{ℕ}
use Prim.Native.String.{String}
use mathlib.Core.Path.{◌≡◌, refl, sym, ap, subst, ◌∙◌}
use mathlib.Core.Bool.{Bool, false, not, cond, ◌&&◌, ◌||◌, true≢false}
use mathlib.Core.List.Memᴰ.{cases_cons as cases}
use mathlib.Core.List.Memᴰ.{head}
use mathlib.Core.List.Memᴰ.{not-nil}
use mathlib.Core.List.Memᴰ.{tail}
use mathlib.Core.List.{List, [], ◌∷◌, Memᴰ as In}
use mathlib.Core.Logic.{◌⊎◌, inl, inr, ⊎_elim}
use mathlib.Core.Option.{Option, none, some, some-injective}
use Rattle.laws.specs.Tests.{any_mark, all_marks, adjacent}
use Rattle.laws.specs.Each.{Each, Some, Neighbours}
use Rattle.laws.specs.Each as E
use Rattle.laws.proofs.Decides.{Decides, holds, fails, itself, swap, equal, bytes_same, both, either, unless, lets, grants}
use Rattle.text.specs.Text.{bytes}
use Rattle.text.specs.Strings.{content_of}
use Rattle.text.specs.Doc.{Name, Doc, scalar, array, object, Members, empty, member, kind_of, token_of, children_of, Property, property, seek, is_there}
use Rattle.contact.specs.Schema.{ObjectType, Rule, one_of, needs, needs_string, needs_true, properties, rules_of, type_in}
use Rattle.contact.specs.Schema as S
use Rattle.contact.specs.Rules.{if_fits, present, is_true, is_string, is_this_string, has_kind, is_separator, marks_of, marks, any_counts, badly_separated, breaks_one, breaks_any, breaks}
use Rattle.contact.specs.AskedKinds.{Tabled, HasLine, Sound}
use Rattle.contact.specs.BetweenMembers.{HasMember, Counts, Absent, IsString, string, Separator, separator, elements, Broken, none_there, alone, other_content, not_so, in_a_row, unordered, only_separators, BreaksBetween}
use Rattle.contact.proofs.Members.{has_seek, seek_has, seek_lacks}
use Rattle.contact.proofs.Judging.Table.{table_test, rules_sound}

-- ---- members

-- what is found of a name
data Sought (ms : Members) (n : Name) : Option Property → Type 0 where
  got : (p : Property) → HasMember ms n p.content → ((e : Doc) → HasMember ms n e → e ≡ p.content) → Sought ms n (some p)
  lost : ((e : Doc) → ¬ HasMember ms n e) → Sought ms n none

sought : (n : Name) (ms : Members) → Sought ms n (seek n ms)
sought n ms = go (seek n ms) refl
  where
    go : (o : Option Property) → seek n ms ≡ o → Sought ms n o
    go none e = lost (seek_lacks n ms e)
    go (some p) e =
        got p (p.label, seek_has n ms p e)
        (λ d (label, h). ap (λ (s : Property). s.content) (some-injective (property label d) p (sym (has_seek h) ∙ e)))

pub there_test : (n : Name) (ms : Members) → Decides ((d : Doc) × HasMember ms n d) (is_there (seek n ms))
there_test n ms = go (sought n ms)
  where
    go : {o : Option Property} → Sought ms n o → Decides ((d : Doc) × HasMember ms n d) (is_there o)
    go (got p h u) = holds (p.content, h)
    go (lost f) = fails (λ h. f h.0 h.1)

-- the one value of which something holds, or that there is none
data Is (P : Doc → Type 0) : Option Doc → Type 0 where
  one : (d : Doc) → P d → ((e : Doc) → P e → e ≡ d) → Is P (some d)
  no_one : ((d : Doc) → ¬ P d) → Is P none

present_is : (o : ObjectType) (n : String) → HasLine o n → (ms : Members) → Is (Counts o ms n) (present o (bytes n) ms)
unfolding present
present_is o n known ms = go (sought (bytes n) ms)
  where
    pick : {b : Bool} (p : Property) → HasMember ms (bytes n) p.content → ((e : Doc) → HasMember ms (bytes n) e → e ≡ p.content)
        → Decides (Tabled o (bytes n) (kind_of p.content)) b → Is (Counts o ms n) (cond b (some p.content) none)
    pick p h u (holds s) = one p.content (record { has = h; suits = s }) (λ e c. u e c.has)
    pick p h u (fails f) = no_one (λ d c. f (subst (λ (x : Doc). Tabled o (bytes n) (kind_of x)) (u d c.has) c.suits))

    go : {x : Option Property} → Sought ms (bytes n) x → Is (Counts o ms n) (if_fits (type_in (properties o) (bytes n)) x)
    go (got p h u) = pick p h u (table_test o n known (kind_of p.content))
    go (lost f) = no_one (λ d c. f d c.has)

-- a test on the value of a member that counts, which an absent one fails
module _ {P : Doc → Type 0} {Q : Doc → Type 0} (f : Option Doc → Bool) (absent : f none ≡ false) (test : (d : Doc) → Decides (Q d) (f (some d))) where
  such : {x : Option Doc} → Is P x → Decides ((d : Doc) × P d × Q d) (f x)
  such (one d p u) = swap (λ q. (d, p, q)) (λ h. subst Q (u h.0 h.1) h.2) (test d)
  such (no_one g) = rw absent (fails (λ h. g h.0 h.1))

present_test : (o : ObjectType) (n : String) → HasLine o n → (ms : Members)
    → Decides ((d : Doc) × Counts o ms n d) (is_there (present o (bytes n) ms))
present_test o n known ms = go (present_is o n known ms)
  where
    go : {x : Option Doc} → Is (Counts o ms n) x → Decides ((d : Doc) × Counts o ms n d) (is_there x)
    go (one d c u) = holds (d, c)
    go (no_one g) = fails (λ h. g h.0 h.1)

-- ---- strings and separators

string_is : {s : String} {d : Doc} → IsString s d → (kind_of d ≡ 5) × (content_of (token_of d) ≡ bytes s)
string_is (string e) = (refl, e)

string_test : (s : String) (d : Doc) → Decides (IsString s d) (is_string (bytes s) d)
unfolding is_string
string_test s (scalar kind token) =
    swap (λ h. subst (λ (k : ℕ). IsString s (scalar k token)) (sym h.0) (string h.1)) string_is
    (lets (equal kind 5) (bytes_same (content_of token) (bytes s)))
string_test s (array ms) = fails (λ h. elim h [ ])
string_test s (object ms) = fails (λ h. elim h [ ])

-- the member of that name is a String with that content
pub string_member : (n : Name) (content : String) (ms : Members)
    → Decides ((d : Doc) × HasMember ms n d × IsString content d) (has_kind (bytes content) (seek n ms))
string_member n content ms = go (sought n ms)
  where
    go : {x : Option Property} → Sought ms n x → Decides ((d : Doc) × HasMember ms n d × IsString content d) (has_kind (bytes content) x)
    go (got p h u) = swap (λ s. (p.content, h, s)) (λ k. subst (IsString content) (u k.0 k.1) k.2) (string_test content p.content)
    go (lost f) = fails (λ k. f k.0 k.1)

-- entries of a type whose `kind` is a String
module _ (entry : ObjectType) (kind-string : Tabled entry (bytes "kind") 5) where
  separator_is : {ms : Members} → Separator entry (object ms) → (kind : Doc) × Counts entry ms "kind" kind × IsString "separator" kind
  separator_is (separator h s) = (_, h, s)

  separator_test : (d : Doc) → Decides (Separator entry d) (is_separator d)
  unfolding is_separator
  separator_test (scalar kind token) = swap (λ h. absurd (true≢false (sym h.1))) (λ h. elim h [ ]) (lets (equal kind 7) (itself false))
  separator_test (array ms) = fails (λ h. elim h [ ])
  separator_test (object ms) =
      swap
      (λ h. separator (record { has = h.1; suits = subst (Tabled entry (bytes "kind")) (sym (string_is h.2).0) kind-string }) h.2)
      (λ s. let k = separator_is s in (k.0, k.1.has, k.2))
      (string_member (bytes "kind") "separator" ms)

  each_separator : (ms : Members) → Decides (Each (Separator entry) (elements ms)) (all_marks (marks_of ms))
  unfolding elements marks_of all_marks
  each_separator empty = holds E.none
  each_separator (member n label d ms) = swap (λ h. E.more h.0 h.1) parts (both (separator_test d) (each_separator ms))
    where
      parts : Each (Separator entry) (d ∷ elements ms) → Separator entry d × Each (Separator entry) (elements ms)
      parts (E.more p ps) = (p, ps)

  some_separator : (ms : Members) → Decides (Some (Separator entry) (elements ms)) (any_mark (marks_of ms))
  unfolding elements marks_of any_mark
  some_separator empty = fails (λ h. elim h [ ])
  some_separator (member n label d ms) = swap (⊎_elim E.here E.later) parts (either (separator_test d) (some_separator ms))
    where
      parts : Some (Separator entry) (d ∷ elements ms) → Separator entry d ⊎ Some (Separator entry) (elements ms)
      parts (E.here p) = inl p
      parts (E.later ps) = inr ps

  two_separators : (ms : Members) → Decides (Neighbours (Separator entry) (elements ms)) (adjacent (marks_of ms))
  unfolding elements marks_of adjacent
  two_separators empty = fails (λ h. elim h [ ])
  two_separators (member n label d empty) = fails alone
    where
      alone : ¬ Neighbours (Separator entry) (d ∷ [])
      alone (E.further h) = elim h [ ]
  two_separators (member n label d (member m tag e ms)) =
      swap (⊎_elim (λ h. E.both h.0 h.1) E.further) parts
      (either (both (separator_test d) (separator_test e)) (two_separators (member m tag e ms)))
    where
      parts : Neighbours (Separator entry) (d ∷ e ∷ elements ms) → (Separator entry d × Separator entry e) ⊎ Neighbours (Separator entry) (e ∷ elements ms)
      parts (E.both p q) = inl (p, q)
      parts (E.further h) = inr h

-- ---- the rules, one by one

-- the only element of a list
only : {A : Type 0} {P : A → Type 0} {x : A} {xs : List A} → Each P (x ∷ xs) → P x
only (E.more p ps) = p

module _ (o : ObjectType) (ms : Members) where
  -- none of some names counts
  absent_test : (ns : List String) → Each (HasLine o) ns → Decides (Each (Absent o ms) ns) (not (any_counts o ms ns))
  unfolding any_counts
  absent_test [] known = holds E.none
  absent_test (n ∷ ns) (E.more k ks) = go (any_counts o ms ns) (present_test o n k ms) (absent_test ns ks)
    where
      parts : Each (Absent o ms) (n ∷ ns) → Absent o ms n × Each (Absent o ms) ns
      parts (E.more p ps) = (p, ps)

      go : {a : Bool} (b : Bool) → Decides ((d : Doc) × Counts o ms n d) a → Decides (Each (Absent o ms) ns) (not b)
          → Decides (Each (Absent o ms) (n ∷ ns)) (not (a || b))
      go b (holds h) r = fails (λ e. (parts e).0 h.0 h.1)
      go b (fails f) r = swap (λ e. E.more (λ d c. f (d, c)) e) (λ e. (parts e).1) r

  true_test : (n : String) → HasLine o n → Decides ((d : Doc) × Counts o ms n d × (kind_of d ≡ 3)) (is_true (present o (bytes n) ms))
  true_test n known = such is_true refl (λ d. equal (kind_of d) 3) (present_is o n known ms)

  -- a test on the marks of a list that counts
  marked : {Q : Members → Type 0} (f : List Bool → Bool) → f [] ≡ false → ((es : Members) → Decides (Q es) (f (marks_of es)))
      → (n : String) → HasLine o n → Decides ((d : Doc) × Counts o ms n d × Q (children_of d)) (f (marks (present o (bytes n) ms)))
  marked f empty-fails test n known = such (λ x. f (marks x)) empty-fails (λ d. test (children_of d)) (present_is o n known ms)

  one_of_test : (ns : List String) → Each (HasLine o) ns → Decides (Broken o ms (one_of ns)) (breaks_one o ms (one_of ns))
  one_of_test ns known = swap none_there (λ h. elim h [ none_there e ↦ e ]) (absent_test ns known)

  needs_test : (n : String) (ns : List String) → HasLine o n → Each (HasLine o) ns → Decides (Broken o ms (needs n ns)) (breaks_one o ms (needs n ns))
  needs_test n ns k ks =
      swap (λ h. alone h.0.1 h.1) (λ h. elim h [ alone c e ↦ ((_, c), e) ]) (both (present_test o n k ms) (absent_test ns ks))

  string_needed : (n m content : String) → HasLine o n → HasLine o m
      → Decides (Broken o ms (needs_string n m content)) (breaks_one o ms (needs_string n m content))
  string_needed n m content k l =
      swap (λ h. other_content h.0.1 (λ d c s. h.1 (d, c, s))) (λ h. elim h [ other_content c f ↦ ((_, c), λ x. f x.0 x.1 x.2) ])
      (both (present_test o n k ms) (unless (such (is_this_string (bytes content)) refl (string_test content) (present_is o m l ms))))

  true_needed : (n m : String) → HasLine o n → HasLine o m → Decides (Broken o ms (needs_true n m)) (breaks_one o ms (needs_true n m))
  true_needed n m k l =
      swap (λ h. not_so h.0.1 (λ d c e. h.1 (d, c, e))) (λ h. elim h [ not_so c f ↦ ((_, c), λ x. f x.0 x.1 x.2) ])
      (both (present_test o n k ms) (unless (true_test m l)))

  -- of a list of entries whose `kind` is a String
  module _ (n : String) (known : HasLine o n) (entry : ObjectType) (kind-string : Tabled entry (bytes "kind") 5) where
    not_only_test : Decides (Broken o ms (S.not_only n entry)) (breaks_one o ms (S.not_only n entry))
    not_only_test =
        swap (λ h. only_separators h.1 h.2) (λ h. elim h [ only_separators c e ↦ (_, c, e) ])
        (such (λ x. is_there x && all_marks (marks x)) refl (λ d. each_separator entry kind-string (children_of d)) (present_is o n known ms))

    -- a list that counts, whose entries are so
    abbrev Listed : (List Doc → Type 0) → Type 0
    Listed Q = (d : Doc) × Counts o ms n d × Q (elements (children_of d))

    -- the two ways of the test
    abbrev Ways : (order : String) → Type 0
    Ways order = Listed (Neighbours (Separator entry)) ⊎ (Listed (Some (Separator entry)) × (((d : Doc) × Counts o ms order d × (kind_of d ≡ 3)) → ⊥))

    separators_test : (order : String) → HasLine o order → Decides (Broken o ms (S.separators n order entry)) (breaks_one o ms (S.separators n order entry))
    unfolding badly_separated adjacent any_mark
    separators_test order l =
        swap by_ways ways
        (either
        (marked adjacent refl (two_separators entry kind-string) n known)
        (both (marked any_mark refl (some_separator entry kind-string) n known) (unless (true_test order l))))
      where
        by_ways : Ways order → Broken o ms (S.separators n order entry)
        by_ways (inl h) = in_a_row h.1 h.2
        by_ways (inr h) = unordered h.0.1 h.0.2 (λ d c e. h.1 (d, c, e))

        ways : Broken o ms (S.separators n order entry) → Ways order
        ways (in_a_row c h) = inl (_, c, h)
        ways (unordered c s f) = inr ((_, c, s), λ h. f h.0 h.1 h.2)

  -- ---- a rule, and the rules of a type

  pub rule_test : (r : Rule) → Sound o r → Decides (Broken o ms r) (breaks_one o ms r)
  rule_test (one_of ns) s = one_of_test ns s.names
  rule_test (needs n ns) s = elim s.names [ E.more k ks ↦ needs_test n ns k ks ]
  rule_test (needs_string n m content) s = elim s.names [ E.more k ks ↦ string_needed n m content k (only ks) ]
  rule_test (needs_true n m) s = elim s.names [ E.more k ks ↦ true_needed n m k (only ks) ]
  rule_test (S.separators n order entry) s = elim s.names [ E.more k ks ↦ separators_test n k entry (only s.kinds) order (only ks) ]
  rule_test (S.not_only n entry) s = not_only_test n (only s.names) entry (only s.kinds)

  -- one of some rules is broken
  abbrev SomeBroken : List Rule → Type 0
  SomeBroken rs = (r : Rule) × In r rs × Broken o ms r

  any_test : (rs : List Rule) → Each (Sound o) rs → Decides (SomeBroken rs) (breaks_any o ms rs)
  unfolding breaks_any
  any_test [] s = fails (λ h. not-nil h.1)
  any_test (r ∷ rs) (E.more s ss) = swap (⊎_elim now further) parts (grants (rule_test r s) (any_test rs ss))
    where
      now : Broken o ms r → SomeBroken (r ∷ rs)
      now h = (r, head refl, h)

      further : SomeBroken rs → SomeBroken (r ∷ rs)
      further h = (h.0, tail h.1, h.2)

      parts : SomeBroken (r ∷ rs) → Broken o ms r ⊎ SomeBroken rs
      parts h = ⊎_elim (λ (e : h.0 ≡ r). inl (subst (Broken o ms) e h.2)) (λ (i : In h.0 rs). inr (h.0, i, h.2)) (cases h.1)

pub between_test : (o : ObjectType) (ms : Members) → Decides (BreaksBetween o ms) (breaks o ms)
between_test o ms =
    swap (λ h. record { rule = h.0; listed = h.1; broken = h.2 }) (λ h. (h.rule, h.listed, h.broken)) (any_test o ms (rules_of o) (rules_sound o))
