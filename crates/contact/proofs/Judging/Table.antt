-- The kinds of types, and the one table:
--     fits-test     the test of a kind decides `Suits`
--     simple-low    a simple type asks for no array and no object
--     typed         the type that the table gives to a name is that of the one line with the name, or `any` where there is none
--     one_line      each line of a type's table has its own name
--     line_of       .. and so the type of a line is the one that the table gives to its name
--     of-each       what is computed over the list of types holds of each
--     table-test    the test of a kind against the type of a name that the table has
--     rules-sound   the rules between members count names of the table
-- Assumes nothing.
use Prim.Native.Nat.{ℕ, ◌<◌}
use Prim.Native.String.{String}
use mathlib.Core.Path.{◌≡◌, refl, sym, ap, subst, ◌∙◌}
use mathlib.Core.Bool.{Bool, true, false, cond, not, ◌&&◌, true≢false}
use mathlib.Core.List.Memᴰ.{cases_cons as cases}
use mathlib.Core.List.Memᴰ.{head}
use mathlib.Core.List.Memᴰ.{not-nil}
use mathlib.Core.List.Memᴰ.{tail}
use mathlib.Core.List.{List, [], ◌∷◌, Memᴰ as In}
use mathlib.Core.Logic.{◌⊎◌, inl, inr, ⊎_elim}
use lib.ListN.{length, get_or-eq_default}
use lib.Dec.{ltb, eqb}
use native.Mathlib.Omega.{arith}
use borrow.Author.Tests.{ltb-true, ltb-false}
use Rattle.laws.specs.Order.{order_of, same}
use Rattle.laws.specs.Each.{Each}
use Rattle.laws.specs.Tests.{every}
use Rattle.laws.proofs.Bools.{by_test}
use Rattle.laws.proofs.Tables.{below, below_at_lem}
use Rattle.laws.proofs.Tests.{each_test}
use Rattle.laws.proofs.Decides.{Decides, holds, fails, told, itself, swap, equal, bytes_same, both, unless, grants}
use Rattle.text.specs.Text.{bytes}
use Rattle.text.specs.Doc.{Name}
use Rattle.contact.specs.Schema.{ObjectType, SimpleType, any_string, exactly, flag, yes, count, time, Ty, any, simple, object_of, list_of, map_of, by_type, Known, Rule, names_in, entries_in, TypeRecord, types, no_type, record_of, properties, rules_of, type_in, fits_simple, fits}
use Rattle.contact.specs.AskedKinds.{Single, a_string, a_number, a_boolean, SingleKind, string, number, off, on, SimpleKind, any_string_case, fixed, utc, integer, boolean, in_set, Suits, unknown, single, list, typed, map, one_of, Tabled, HasLine, Sound}

-- ---- kinds

-- kinds of what holds no others, by tests
abbrev is_single : Single → ℕ → Bool
is_single a_string k = eqb k 5
is_single a_number k = eqb k 4
is_single a_boolean k = cond (eqb k 2) true (eqb k 3)

-- the same as `SingleKind`, by cases
abbrev Kinds : Single → ℕ → Type 0
Kinds a_string k = k ≡ 5
Kinds a_number k = k ≡ 4
Kinds a_boolean k = (k ≡ 2) ⊎ (k ≡ 3)

kinds : {s : Single} {k : ℕ} → SingleKind s k → Kinds s k
kinds string = refl
kinds number = refl
kinds off = inl refl
kinds on = inr refl

of_kind : {j k : ℕ} (s : Single) → SingleKind s j → k ≡ j → SingleKind s k
of_kind s h e = subst (SingleKind s) (sym e) h

single_test : (s : Single) (k : ℕ) → Decides (SingleKind s k) (is_single s k)
single_test a_string k = swap (of_kind a_string string) kinds (equal k 5)
single_test a_number k = swap (of_kind a_number number) kinds (equal k 4)
single_test a_boolean k = swap (⊎_elim (of_kind a_boolean off) (of_kind a_boolean on)) kinds (grants (equal k 2) (equal k 3))

single_low : {s : Single} {k : ℕ} → SingleKind s k → k < 6
single_low string = omega arith
single_low number = omega arith
single_low off = omega arith
single_low on = omega arith

-- what a simple type asks for, in its meaning and in its test
record Law (l : SimpleType) : Type 0 where
  asks : Single
  enter : (k : ℕ) → SingleKind asks k → SimpleKind l k
  leave : (k : ℕ) → SimpleKind l k → SingleKind asks k
  test : (k : ℕ) → is_single asks k ≡ fits_simple l k

-- so for each
law : (l : SimpleType) → Law l
law any_string = record { asks = a_string; enter = λ k h. any_string_case h; leave = λ k h. elim h [ any_string_case x ↦ x ]; test = λ k. refl }
law (exactly n) = record { asks = a_string; enter = λ k h. fixed h; leave = λ k h. elim h [ fixed x ↦ x ]; test = λ k. refl }
law flag = record { asks = a_boolean; enter = λ k h. boolean h; leave = λ k h. elim h [ boolean x ↦ x ]; test = λ k. refl }
law yes = record { asks = a_boolean; enter = λ k h. in_set h; leave = λ k h. elim h [ in_set x ↦ x ]; test = λ k. refl }
law (count low high) = record { asks = a_number; enter = λ k h. integer h; leave = λ k h. elim h [ integer x ↦ x ]; test = λ k. refl }
law time = record { asks = a_string; enter = λ k h. utc h; leave = λ k h. elim h [ utc x ↦ x ]; test = λ k. refl }

simple_test : (l : SimpleType) (k : ℕ) → Decides (SimpleKind l k) (fits_simple l k)
simple_test l k = let a = law l in subst (Decides (SimpleKind l k)) (a.test k) (swap (a.enter k) (a.leave k) (single_test a.asks k))

pub simple_low : (l : SimpleType) (k : ℕ) → fits_simple l k ≡ true → k < 6
simple_low l k e = single_low ((law l).leave k (told (simple_test l k) e))

-- the same as `Suits`, by cases of the type
abbrev Asks : Ty → ℕ → Type 0
Asks any k = Unit {0}
Asks (simple l) k = SimpleKind l k
Asks (object_of o) k = k ≡ 7
Asks (list_of ty) k = k ≡ 6
Asks (map_of keys ty) k = k ≡ 7
Asks (by_type usual special) k = k ≡ 7

asked : {ty : Ty} {k : ℕ} → Suits ty k → Asks ty k
asked unknown = tt
asked (single h) = h
asked list = refl
asked typed = refl
asked map = refl
asked one_of = refl

-- what suits at a kind, suits at an equal one
at_kind : {j k : ℕ} (ty : Ty) → Suits ty j → k ≡ j → Suits ty k
at_kind ty s e = subst (Suits ty) (sym e) s

suits : (ty : Ty) (k : ℕ) → Asks ty k → Suits ty k
suits any k e = unknown
suits (simple l) k h = single h
suits (object_of o) k e = at_kind (object_of o) typed e
suits (list_of ty) k e = at_kind (list_of ty) list e
suits (map_of keys ty) k e = at_kind (map_of keys ty) map e
suits (by_type usual special) k e = at_kind (by_type usual special) one_of e

asks_test : (ty : Ty) (k : ℕ) → Decides (Asks ty k) (fits ty k)
asks_test any k = holds tt
asks_test (simple l) k = simple_test l k
asks_test (object_of o) k = equal k 7
asks_test (list_of ty) k = equal k 6
asks_test (map_of keys ty) k = equal k 7
asks_test (by_type usual special) k = equal k 7

pub fits_test : (ty : Ty) (k : ℕ) → Decides (Suits ty k) (fits ty k)
fits_test ty k = swap (suits ty k) asked (asks_test ty k)

-- ---- lines of the table

-- what a list of lines says of a name: the first line of that name, or none
pub data Typed (ks : List Known) (n : Name) : Ty → Type 0 where
  line : (k : Known) → In k ks → k.spelling ≡ n → Typed ks n k.type
  no_line_lem : ((k : Known) → In k ks → ¬ (k.spelling ≡ n)) → Typed ks n any

pub type_in_lem : (ks : List Known) (n : Name) → Typed ks n (type_in ks n)
unfolding type_in
type_in_lem [] n = no_line_lem (λ k i. absurd (not-nil i))
type_in_lem (k ∷ ks) n = next (bytes_same n k.spelling) (type_in_lem ks n)
  where
    next : {b : Bool} {ty : Ty} → Decides (n ≡ k.spelling) b → Typed ks n ty → Typed (k ∷ ks) n (cond b k.type ty)
    next (holds e) t = line k (head refl) (sym e)
    next (fails f) (line j i e) = line j (tail i) e
    next (fails f) (no_line_lem g) = no_line_lem (λ j i. ⊎_elim (λ (e : j ≡ k). λ s. f (sym s ∙ ap (λ (x : Known). x.spelling) e)) (λ i'. g j i') (cases i))

-- no line has that name
unlike : Name → List Known → Bool
unlike n [] = true
unlike n (k ∷ ks) = not (same k.spelling n) && unlike n ks

-- no two lines have one name
apart : List Known → Bool
apart [] = true
apart (k ∷ ks) = unlike k.spelling ks && apart ks

-- a test on every type's record that is computed over the list of them, and passes behind it
module _ (test : ObjectType → TypeRecord → Bool) (listed : below (λ o. test o (record_of o)) (length types) ≡ true)
    (behind : (o : ObjectType) → test o no_type ≡ true) where
  pub of_each : (o : ObjectType) → test o (record_of o) ≡ true
  unfolding record_of
  of_each o =
      by_test (ltb o (length types))
      (λ e. below_at_lem (λ k. test k (record_of k)) (length types) listed o (ltb-true o (length types) e))
      (λ e. rw (get_or-eq_default types no_type {n = o} (ltb-false o (length types) e)) (behind o))

-- in each type's table a name has one line
names_apart : (o : ObjectType) → apart (properties o) ≡ true
unfolding apart unlike record_of types order_of
names_apart = of_each (λ o r. apart r.known) refl (λ o. refl)

not_among : (n : Name) (ks : List Known) → unlike n ks ≡ true → (k : Known) → In k ks → ¬ (k.spelling ≡ n)
unfolding unlike
not_among n [] e k i s = not-nil i
not_among n (j ∷ js) e k i s =
    let h = told (both (unless (bytes_same j.spelling n)) (itself (unlike n js))) e in
    ⊎_elim (λ (q : k ≡ j). h.0 (ap (λ (x : Known). x.spelling) (sym q) ∙ s)) (λ i'. not_among n js h.1 k i' s) (cases i)

one_among : (ks : List Known) → apart ks ≡ true → (k j : Known) → In k ks → In j ks → k.spelling ≡ j.spelling → k ≡ j
unfolding apart
one_among [] e k j i i' s = absurd (not-nil i)
one_among (l ∷ ls) e k j i i' s =
    let ok = told (both (itself (unlike l.spelling ls)) (itself (apart ls))) e in
    go ok.0 (one_among ls ok.1 k j) (cases i) (cases i')
  where
    go : unlike l.spelling ls ≡ true → (In k ls → In j ls → k.spelling ≡ j.spelling → k ≡ j) → (k ≡ l) ⊎ In k ls → (j ≡ l) ⊎ In j ls → k ≡ j
    go un further (inl p) (inl q) = p ∙ sym q
    go un further (inl p) (inr q) = absurd (not_among l.spelling ls un j q (sym s ∙ ap (λ (x : Known). x.spelling) p))
    go un further (inr p) (inl q) = absurd (not_among l.spelling ls un k p (s ∙ ap (λ (x : Known). x.spelling) q))
    go un further (inr p) (inr q) = further p q s

pub one_line : (o : ObjectType) (k j : Known) → In k (properties o) → In j (properties o) → k.spelling ≡ j.spelling → k ≡ j
one_line o = one_among (properties o) (names_apart o)

pub line_of : (o : ObjectType) {n : Name} {ty : Ty} → Typed (properties o) n ty → (k : Known) → In k (properties o) → k.spelling ≡ n → ty ≡ k.type
line_of o (line j i e) k i' e' = ap (λ (x : Known). x.type) (one_line o j k i i' (e ∙ sym e'))
line_of o (no_line_lem f) k i e = absurd (f k i e)

-- ---- names that the rules count

-- a line has that name
line_found : (n : Name) (ks : List Known) → unlike n ks ≡ false → (k : Known) × In k ks × (k.spelling ≡ n)
unfolding unlike
line_found n [] e = absurd (true≢false e)
line_found n (k ∷ ks) e = go (bytes_same k.spelling n) e (line_found n ks)
  where
    go : {b : Bool} → Decides (k.spelling ≡ n) b → not b && unlike n ks ≡ false → (unlike n ks ≡ false → (j : Known) × In j ks × (j.spelling ≡ n))
        → (j : Known) × In j (k ∷ ks) × (j.spelling ≡ n)
    go (holds h) q more = (k, head refl, h)
    go (fails f) q more = let (j, i, h) = more q in (j, tail i, h)

line_test : (o : ObjectType) (n : String) → Decides (HasLine o n) (not (unlike (bytes n) (properties o)))
line_test o n = go (unlike (bytes n) (properties o)) refl
  where
    go : (b : Bool) → unlike (bytes n) (properties o) ≡ b → Decides (HasLine o n) (not b)
    go true e = fails (λ h. not_among (bytes n) (properties o) e h.line h.listed h.named)
    go false e = let (k, i, h) = line_found (bytes n) (properties o) e in holds (record { line = k; listed = i; named = h })

-- the kind of a name that the table has
pub table_test : (o : ObjectType) (n : String) → HasLine o n → (kind : ℕ) → Decides (Tabled o (bytes n) kind) (fits (type_in (properties o) (bytes n)) kind)
table_test o n known kind = go (type_in_lem (properties o) (bytes n))
  where
    go : {ty : Ty} → Typed (properties o) (bytes n) ty → Decides (Tabled o (bytes n) kind) (fits ty kind)
    go (line k i e) =
        swap
        (λ s. record { line = k; listed = i; named = e; suits = s })
        (λ t. subst (λ (ty : Ty). Suits ty kind) (sym (line_of o (line k i e) t.line t.listed t.named)) t.suits)
        (fits_test k.type kind)
    go (no_line_lem f) = absurd (f known.line known.listed known.named)

-- ---- what the rules count

-- of an entry's type: its `kind` is a String
kinded : ObjectType → Bool
kinded entry = not (unlike (bytes "kind") (properties entry)) && fits (type_in (properties entry) (bytes "kind")) 5

kinded_test : (entry : ObjectType) → Decides (Tabled entry (bytes "kind") 5) (kinded entry)
unfolding kinded
kinded_test entry = go (line_test entry "kind")
  where
    go : {b : Bool} → Decides (HasLine entry "kind") b → Decides (Tabled entry (bytes "kind") 5) (b && fits (type_in (properties entry) (bytes "kind")) 5)
    go (holds h) = table_test entry "kind" h 5
    go (fails f) = fails (λ t. f (record { line = t.line; listed = t.listed; named = t.named }))

sound : ObjectType → Rule → Bool
sound o r = every (λ n. not (unlike (bytes n) (properties o))) (names_in r) && every kinded (entries_in r)

sound_test : (o : ObjectType) (r : Rule) → Decides (Sound o r) (sound o r)
unfolding sound
sound_test o r =
    swap (λ h. record { names = h.0; kinds = h.1 }) (λ h. (h.names, h.kinds))
    (both (each_test (λ n. not (unlike (bytes n) (properties o))) (line_test o) (names_in r)) (each_test kinded kinded_test (entries_in r)))

all_sound : (o : ObjectType) → every (sound o) (rules_of o) ≡ true
unfolding every sound kinded unlike type_in record_of types order_of
all_sound = of_each (λ o r. every (sound o) r.rules) refl (λ o. refl)

pub rules_sound : (o : ObjectType) → Each (Sound o) (rules_of o)
rules_sound o = told (each_test (sound o) (sound_test o) (rules_of o)) (all_sound o)
