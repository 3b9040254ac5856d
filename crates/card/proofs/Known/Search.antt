-- A search through what an object type has, one by one in the list of all:
--     first_of                               the first of a list that is hit
--     Left, left-starts, -hit, -on, -end    what is left of it at a place
--     type-first, lacking-first, breaks-first    the three searches of the code
-- Assumes nothing.
use mathlib.Core.Path.{◌≡◌, refl, sym, ap, ◌∙◌}
use mathlib.Core.List.{List, [], ◌∷◌}
use mathlib.Core.Bool.{Bool, true, false, cond}
use Prim.Native.Nat.{ℕ, ◌+◌, ◌-◌, ◌≤◌, ◌<◌}
use native.Mathlib.Omega.{arith}
use native.Mathlib.Numerals.{add-one}
use lib.ListN.{get_or, drop, drop_of_length-le}
use lib.Seq.{drop-cons}
use Rattle.laws.specs.Order.{same}
use Rattle.text.specs.Doc.{Name, Members}
use Rattle.contact.specs.Schema.{ObjectType, Ty, any, Known, Rule, type_in}
use Rattle.contact.specs.Rules.{breaks_one, breaks_any}
use Rattle.contact.specs.Judge.{lacking}
use Rattle.card.specs.Catalog.{OwnPart, is_missing}

module _ {A B : Type 0} (hit : A → Bool) (out : A → B) (nothing : B) where
  -- the first of a list that is hit
  pub first_of : List A → B
  first_of [] = nothing
  first_of (a ∷ xs) = let more = first_of xs in cond (hit a) (out a) more

  module _ (all own : List A) (d : A) (first last : ℕ) where
    -- at a place of the list of all, the first is still among those that are left
    pub record Left (i : ℕ) : Type 0 where
      pub after : first ≤ i
      pub before : i ≤ last
      pub is : first_of (drop (i - first) own) ≡ first_of own

    module _ (s : OwnPart all own d first last) where
      pub left_starts : Left first
      left_starts =
          let z : first - first ≡ 0 = omega arith in
          record { after = omega arith; before = omega (arith, s.size); is = rw z }

      module _ {i : ℕ} (l : Left i) where
        here : i < last → get_or own (i - first) d ≡ get_or all i d
        here h =
            let e : first + (i - first) ≡ i = omega (arith, l.after) in
            sym (s.is (i - first) (omega (arith, s.size, l.after))) ∙ ap (λ k. get_or all k d) e

        rest : i < last → drop (i - first) own ≡ get_or all i d ∷ drop (i + 1 - first) own
        rest h =
            let e : i + 1 - first ≡ i - first + 1 = omega (arith, l.after) in
            rw (e, add-one, ← here h, drop-cons own (i - first) d (omega (arith, s.size, l.after)))

        pub left_hit : i < last → hit (get_or all i d) ≡ true → out (get_or all i d) ≡ first_of own
        unfolding first_of
        left_hit h e = sym (sym l.is ∙ rw (rest h, e))

        pub left_on : i < last → hit (get_or all i d) ≡ false → Left (i + 1)
        unfolding first_of
        left_on h e = record { after = omega (arith, l.after); before = omega arith; is = sym (rw (rest h, e)) ∙ l.is }

        pub left_end : last ≤ i → nothing ≡ first_of own
        unfolding first_of
        left_end h = sym (sym l.is ∙ rw (drop_of_length-le own {i = i - first} (omega (arith, s.size))))

-- ---- the type of a name

abbrev pub named : Name → Known → Bool
named n k = same n k.spelling

pub type_first : (n : Name) (ks : List Known) → first_of (named n) (λ k. k.type) any ks ≡ type_in ks n
unfolding first_of type_in
type_first n [] = refl
type_first n (k ∷ ks) = ap (λ (t : Ty). cond (same n k.spelling) k.type t) (type_first n ks)

-- ---- a mandatory property that is missing

pub lacking_first : (ms : Members) (ks : List Known) → first_of (is_missing ms) (λ k. true) false ks ≡ lacking ks ms
unfolding first_of lacking
lacking_first ms [] = refl
lacking_first ms (k ∷ ks) = ap (λ (b : Bool). cond (is_missing ms k) true b) (lacking_first ms ks)

-- ---- a rule that is broken

pub breaks_first : (o : ObjectType) (ms : Members) (rs : List Rule) → first_of (breaks_one o ms) (λ r. true) false rs ≡ breaks_any o ms rs
unfolding first_of breaks_any
breaks_first o ms [] = refl
breaks_first o ms (r ∷ rs) = ap (λ (b : Bool). cond (breaks_one o ms r) true b) (breaks_first o ms rs)
