-- What codes stand for (specs/Types.antt):
--     any_code, object-code      of an unknown property; of an object of a type
--     choice-small               the two types of a choice are small numbers
--     inner-one, inner-many      of the values of a list or a map
-- Assumes nothing.
use Prim.Native.Nat.{ℕ, ◌+◌, ◌-◌, ◌/◌, ◌%◌, ◌≤◌, ◌<◌}
use mathlib.Core.Path.{◌≡◌, refl, ◌∙◌}
use native.Mathlib.Omega.{arith}
use borrow.Author.Tests.{le-leb, lt-leb}
use Rattle.laws.proofs.Branches.{if_most, if_equal}
use Rattle.contact.specs.Schema.{ObjectType, SimpleType, Ty, any, simple, object_of, list_of, map_of, by_type, free}
use Rattle.card.specs.Types.{inner_type, item_at, type_at}

-- ---- items

-- what holds of all that items may be holds of each
of_item : (P : Ty → Type 0) (n : ℕ) → (4096 ≤ n → P (by_type ((n - 4096) / 64) ((n - 4096) % 64))) → ((l : SimpleType) → P (simple l))
    → ((o : ObjectType) → P (object_of o)) → P (map_of free any) → P any → P (item_at n)
unfolding item_at
of_item P n choice one object objects nothing =
    if_most P 4096 n choice
    (λ a. if_most P 128 n (λ h. one _) (λ b. if_most P 64 n (λ h. object _) (λ c. if_most P 32 n (λ h. one _)
    (λ d. if_equal P n 1 (λ h. one _) (λ e. if_equal P n 2 (λ h. one _) (λ f. if_equal P n 3 (λ h. one _)
    (λ g. if_equal P n 4 (λ h. one _) (λ i. if_equal P n 5 (λ h. one _) (λ j. if_equal P n 6 (λ h. objects) (λ k. nothing))))))))))

-- an item is a code by itself
item_code : (n : ℕ) → n < 8192 → type_at n ≡ item_at n
unfolding type_at
item_code n h =
    let item : n % 8192 ≡ n = omega arith in
    let shape : n / 8192 % 4 ≡ 0 = omega arith in
    rw (shape, item)

pub any_code : type_at 0 ≡ any
unfolding type_at item_at
any_code = refl

pub object_code : (o : ObjectType) → o < 64 → type_at (64 + o) ≡ object_of o
unfolding item_at
object_code o h =
    let is : 64 + o - 64 ≡ o = omega arith in
    item_code (64 + o) (omega arith) ∙ rw (lt-leb 4096 (64 + o) (omega arith), lt-leb 128 (64 + o) (omega arith), le-leb 64 (64 + o) (omega arith), is)

-- ---- a choice of two

abbrev Small : Ty → Type 0
Small any = Prim.Unit {0}
Small (simple l) = Prim.Unit {0}
Small (object_of o) = Prim.Unit {0}
Small (list_of ty) = Prim.Unit {0}
Small (map_of keys ty) = Prim.Unit {0}
Small (by_type usual special) = (usual < 64) × (special < 64)

code_small : (code : ℕ) → Small (type_at code)
unfolding type_at
code_small code =
    let shape = code / 8192 % 4 in
    if_equal Small shape 1 (λ h. tt) (λ a. if_equal Small shape 2 (λ h. tt) (λ b. if_equal Small shape 3 (λ h. tt)
    (λ c. of_item Small (code % 8192) (λ h. (omega arith, omega arith)) (λ l. tt) (λ o. tt) tt tt)))

pub choice_small : (code usual special : ℕ) → type_at code ≡ by_type usual special → (usual < 64) × (special < 64)
choice_small code usual special e = rw e at (code_small code)

-- ---- lists and maps

module _ (code : ℕ) where
  pub inner_one : code / 8192 % 4 ≡ 0 → type_at 0 ≡ inner_type (type_at code)
  unfolding type_at
  inner_one z = any_code ∙ rw z (of_item (λ (ty : Ty). any ≡ inner_type ty) (code % 8192) (λ h. refl) (λ l. refl) (λ o. refl) refl refl)

  pub inner_many : (code / 8192 % 4 ≡ 0 → ⊥) → type_at (code % 8192) ≡ inner_type (type_at code)
  unfolding type_at
  inner_many ne =
      let P : Ty → Type 0 = λ ty. item_at (code % 8192) ≡ inner_type ty in
      let shape = code / 8192 % 4 in
      item_code (code % 8192) (omega arith)
      ∙ if_equal P shape 1 (λ h. refl) (λ a. if_equal P shape 2 (λ h. refl) (λ b. if_equal P shape 3 (λ h. refl) (λ c. absurd (omega arith))))
