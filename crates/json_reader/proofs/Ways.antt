-- Laws of the definitions of a value and of a member, one for each way that the code goes. Assumes nothing.
use Rattle.std.specs.Prelude.{Result, Ok, Err}
use Rattle.text.specs.declared.Fault.{Fault}
use mathlib.Core.Path.{◌≡◌, refl, ap, ◌∙◌}
use mathlib.Core.List.{List, [], ◌∷◌}
use mathlib.Core.Bool.{Bool, true, false, cond}
use Prim.Native.Nat.{ℕ, zero, suc, ◌+◌, ◌-◌, ◌≤◌, ◌<◌}
use native.Mathlib.Omega.{arith}
use native.Mathlib.Numerals.{sub-one}
use native.Mathlib.Decide.{dec_le}
use lib.ListN.{length, get_or-eq_default}
use lib.Dec.{eqb}
use borrow.Author.Tests.{le-leb, lt-leb, eq-eqb, ne_eqb}
use Rattle.laws.specs.Earliest.{first_repeat}
use Rattle.text.specs.Limits.{Limits, comparing, loose}
use Rattle.text.specs.Text.{byte_at}
use Rattle.text.specs.Strings.{string_end}
use Rattle.text.specs.Tokens.{skip, is_digit, kind_by, token_at}
use Rattle.text.specs.Tree.{curly, Forest, none, leaf}
use Rattle.text.specs.Firsts.{HasFirst, rest_at}
use Rattle.text.specs.Grammar.{closing}
use Rattle.text.specs.Reader.{Read, good, bad, Reader, scalar_with, scalar_at, close_of, container, deep, value_with, inside_of, colon_at, member_with, member_of, value_at, elements_at, members_at, array_at, object_at}
use Rattle.text.specs.Sheet.{refusal_of}
use Rattle.text.specs.declared.Refusal.TheVariants.{Grammar, Deep, Many}
use Rattle.text.proofs.Laws.{value_parts}
use Rattle.text.proofs.Placing.{single_value}
use Rattle.repeats.specs.Quoted.{tail_at}
use Rattle.repeats.specs.Closed.{strict_item, own_name, aside_name, settle}
use Rattle.repeats.proofs.Gathering.{aside_law}
use Rattle.repeats.proofs.Fair.{value_fair}
use Rattle.json_reader.specs.Readers.{container_of, bracket_of, container_at, item_of, items_at, names_at}
use Rattle.json_reader.specs.declared.containers.Container.{Container}
use Rattle.json_reader.specs.declared.containers.Container.TheVariants.{Array, Object}

-- ---- values that hold no others ----

module _ (L : Limits) (t : List ℕ) (kind ns ne at n : ℕ) where
  pub scalar_many : L.values ≤ n → scalar_at L t kind ns ne at n ≡ bad (Many at)
  unfolding scalar_at
  scalar_many h = rw (le-leb _ _ h)

  module _ (h : n < L.values) where
    pub scalar_end : (to : ℕ) → token_at t kind at ≡ Ok to → scalar_at L t kind ns ne at n ≡ good (leaf kind ns ne at to none) to
    unfolding scalar_at scalar_with
    scalar_end to e = rw (lt-leb _ _ h, e)

    pub scalar_no : (fault : Fault ℕ) → token_at t kind at ≡ Err fault → scalar_at L t kind ns ne at n ≡ bad (refusal_of fault)
    unfolding scalar_at scalar_with
    scalar_no fault e = rw (lt-leb _ _ h, e)

-- whether names are compared is nothing to it
pub scalar_alike : (compare : Bool) (L : Limits) (t : List ℕ) (kind ns ne at n : ℕ) → scalar_at (comparing compare L) t kind ns ne at n ≡ scalar_at L t kind ns ne at n
unfolding scalar_at
scalar_alike compare L t kind ns ne at n = refl

-- ---- kinds ----

-- where a byte begins a value, the text has not ended; and no kind is above 7
pub kind_inside : (t : List ℕ) (at kind : ℕ) → kind ≡ kind_by (byte_at t at) → (kind ≡ 0 → ⊥) → at < length t
unfolding kind_by
kind_inside t at kind k h = elim (dec_le (length t) at) [
  | yes l ↦ absurd (h (k ∙ ap kind_by (get_or-eq_default t 256 l)))
  | no l ↦ omega arith
]

small_cond : (b : Bool) (x y : ℕ) → x < 8 → y < 8 → cond b x y < 8
small_cond true x y p q = p
small_cond false x y p q = q

pub kind_small : (b : ℕ) → kind_by b < 8
unfolding kind_by
kind_small b =
    small_cond (eqb b 110) 1 _ (omega arith)
    (small_cond (eqb b 102) 2 _ (omega arith)
    (small_cond (eqb b 116) 3 _ (omega arith)
    (small_cond (eqb b 45) 4 _ (omega arith)
    (small_cond (eqb b 34) 5 _ (omega arith)
    (small_cond (eqb b 91) 6 _ (omega arith)
    (small_cond (eqb b 123) 7 _ (omega arith) (small_cond (is_digit b) 4 0 (omega arith) (omega arith))))))))

-- ---- a value by the kind of its first byte ----

module _ (L : Limits) (t : List ℕ) (ns ne at n depth : ℕ) where
  module _ (kind : ℕ) (k : kind ≡ kind_by (byte_at t at)) where
    pub value_none : kind ≡ 0 → value_at L t depth ns ne at n ≡ bad (Grammar at)
    unfolding value_with
    value_none h = value_parts L t depth ns ne at n ∙ rw (← k, h)

    value_array : kind ≡ 6 → value_at L t depth ns ne at n ≡ array_at L t depth ns ne at n
    unfolding value_with
    value_array h = value_parts L t depth ns ne at n ∙ rw (← k, h)

    value_object : kind ≡ 7 → value_at L t depth ns ne at n ≡ object_at L t depth ns ne at n
    unfolding value_with
    value_object h = value_parts L t depth ns ne at n ∙ rw (← k, h)

    pub value_container : 6 ≤ kind → value_at L t depth ns ne at n ≡ container_at (container_of kind) L t depth ns ne at n
    value_container h = elim (dec_le kind 6) [
      | yes l ↦ let e : kind ≡ 6 = omega arith in value_array e ∙ rw e
      | no l ↦ let e : kind ≡ 7 = omega (arith, k, kind_small (byte_at t at)) in value_object e ∙ rw e
    ]

    pub value_scalar : (kind ≡ 0 → ⊥) → kind < 6 → value_at L t depth ns ne at n ≡ scalar_at L t kind ns ne at n
    unfolding value_with
    value_scalar h l =
        value_parts L t depth ns ne at n ∙ rw (← k, ne_eqb _ _ h, ne_eqb kind 6 (λ e. omega arith), ne_eqb kind 7 (λ e. omega arith))

-- ---- containers ----

module _ (L : Limits) (t : List ℕ) (ns ne at n : ℕ) where
  pub container_deep : (of : Container) (depth : ℕ) → depth ≡ 0 → container_at of L t depth ns ne at n ≡ bad (Deep at)
  unfolding array_at object_at deep
  container_deep Array depth h = rw h
  container_deep Object depth h = rw h

  -- where one may be opened, the two go the same way
  opened : (of : Container) (depth : ℕ)
      → container_at of L t (suc depth) ns ne at n ≡ container L (bracket_of of) (inside_of t (strict_item L t (value_at L t depth) (bracket_of of)) (closing (bracket_of of))) ns ne at n
  unfolding array_at object_at elements_at members_at
  opened Array depth = refl
  opened Object depth = refl

  pub container_many : (of : Container) (depth : ℕ) → (depth ≡ 0 → ⊥) → L.values ≤ n → container_at of L t depth ns ne at n ≡ bad (Many at)
  unfolding container
  container_many of zero h m = absurd (h refl)
  container_many of (suc depth) h m = opened of depth ∙ rw (le-leb _ _ m)

-- its items are read without comparing names, and then those that were put aside are looked through
module _ (compare : Bool) (M : Limits) (t : List ℕ) (ns ne at n : ℕ) where
  abbrev L : Limits
  L = comparing compare M

  pub container_open : (of : Container) (depth : ℕ) → (depth ≡ 0 → ⊥) → n < M.values
      → container_at of L t depth ns ne at n
      ≡ close_of (bracket_of of) ns ne at (settle (first_repeat (tail_at t 1) (names_at L of t (depth - 1) (at + 1) (n + 1))) (items_at L of t (depth - 1) (at + 1) (n + 1)))
  unfolding container
  container_open of zero h m = absurd (h refl)
  container_open of (suc depth) h m =
      rw sub-one
      (opened L t ns ne at n of depth
      ∙ rw (lt-leb _ _ m) (ap (close_of (bracket_of of) ns ne at) (aside_law M t (value_at L t depth) (value_fair L t depth) compare (bracket_of of) (at + 1) (n + 1))))

-- ---- a member's name and colon ----

module _ (t : List ℕ) (value : Reader) (at end n x : ℕ) (e : x ≡ skip t end) where
  pub colon_none : (byte_at t x ≡ 58 → ⊥) → colon_at t value at end n ≡ bad (Grammar x)
  unfolding colon_at
  colon_none h = rw (← e, ne_eqb _ _ h)

  pub colon_there : byte_at t x ≡ 58 → colon_at t value at end n ≡ value (at + 1) (end - 1) (skip t (x + 1)) n
  unfolding colon_at
  colon_there h = rw (← e, eq-eqb _ _ h)

module _ (L : Limits) (t : List ℕ) (value : Reader) (done : Forest) (at n : ℕ) where
  pub member_none : (byte_at t at ≡ 34 → ⊥) → member_of (loose L) t value done at n ≡ bad (Grammar at)
  unfolding member_of
  member_none h = rw (ne_eqb _ _ h)

  module _ (h : byte_at t at ≡ 34) where
    pub member_no : (fault : Fault ℕ) → string_end t (at + 1) ≡ Err fault → member_of (loose L) t value done at n ≡ bad (refusal_of fault)
    unfolding member_of member_with
    member_no fault e = rw (eq-eqb _ _ h, e)

    pub member_closed : (end : ℕ) → string_end t (at + 1) ≡ Ok end → member_of (loose L) t value done at n ≡ colon_at t value at end n
    unfolding member_of member_with
    member_closed end e = rw (eq-eqb _ _ h, e)

-- and the name that it closes; where none is closed, none is put aside
pub neither : (b : Bool) → ◌≡◌ {A = List ℕ} (cond b [] []) []
neither true = refl
neither false = refl

module _ (L : Limits) (t : List ℕ) (at : ℕ) where
  none_aside : own_name t curly at ≡ [] → aside_name L t curly at ≡ []
  none_aside e = rw e (neither L.unique)

  pub own_none : (byte_at t at ≡ 34 → ⊥) → aside_name L t curly at ≡ []
  own_none h = none_aside (rw (ne_eqb _ _ h))

  module _ (h : byte_at t at ≡ 34) where
    pub own_no : (fault : Fault ℕ) → string_end t (at + 1) ≡ Err fault → aside_name L t curly at ≡ []
    own_no fault e = none_aside (rw (eq-eqb _ _ h, e))

module _ (t : List ℕ) (at : ℕ) (h : byte_at t at ≡ 34) where
  pub own_closed : (end : ℕ) → string_end t (at + 1) ≡ Ok end → own_name t curly at ≡ at ∷ []
  own_closed end e = rw (eq-eqb _ _ h, e)

-- ---- a value that is accepted is one

-- where a value is read, it is one, and nothing follows it
abbrev pub OneValue : Read → Type 0
OneValue (good f to) = HasFirst f × (rest_at f ≡ none)
OneValue (bad r) = Prim.Unit {0}

one_if : (b : Bool) (x y : Read) → OneValue x → OneValue y → OneValue (cond b x y)
one_if true x y p q = p
one_if false x y p q = q

pub value_one : (L : Limits) (t : List ℕ) (ns ne at n depth : ℕ) → OneValue (value_at L t depth ns ne at n)
value_one L t ns ne at n depth = go (value_at L t depth ns ne at n) refl
  where
    go : (R : Read) → value_at L t depth ns ne at n ≡ R → OneValue R
    go (good f to) e = let s = single_value L t depth ns ne at n f to e in (s.some, s.alone)
    go (bad r) e = tt

pub item_one : (L : Limits) (of : Container) (t : List ℕ) (depth : ℕ) (done : Forest) (at n : ℕ) → OneValue (item_of L of t depth done at n)
unfolding member_of member_with colon_at
item_one L Array t depth done at n = value_one L t 0 0 at n depth
item_one L Object t depth done at n = one_if (eqb (byte_at t at) 34) _ _ (member (string_end t (at + 1))) tt
  where
    member : (k : Result ℕ (Fault ℕ)) → OneValue (member_with (loose L) t (value_at L t depth) done at n k)
    member (Ok end) = one_if (eqb (byte_at t (skip t end)) 58) _ _ (value_one L t (at + 1) (end - 1) (skip t (skip t end + 1)) n depth) tt
    member (Err fault) = tt
