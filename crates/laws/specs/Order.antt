-- Ascending byte order: how two runs of bytes compare. Assumes nothing: these are definitions.
use Rattle.std.specs.declared.cmp.Ordering.{Ordering}
use Rattle.std.specs.declared.cmp.Ordering.TheVariants.{Less, Equal, Greater}
use Rattle.std.specs.Prelude.{ℕ, ◌<◌, List, [], ◌∷◌, Bool, true, false, cond, ltb}

-- the first byte that differs decides; a run stands before those that it begins
unfoldable pub order_of : List ℕ → List ℕ → Ordering
order_of [] [] = Equal
order_of [] (y ∷ ys) = Less
order_of (x ∷ xs) [] = Greater
order_of (x ∷ xs) (y ∷ ys) = let more = order_of xs ys in cond (ltb x y) Less (cond (ltb y x) Greater more)

-- is it Equal?
abbrev pub is_same : Ordering → Bool
is_same Less = false
is_same Equal = true
is_same Greater = false

-- is it Less?
abbrev pub is_less : Ordering → Bool
is_less Less = true
is_less Equal = false
is_less Greater = false

-- are two runs of bytes equal?
abbrev pub same : List ℕ → List ℕ → Bool
same xs ys = is_same (order_of xs ys)

-- does the one stand before the other?
abbrev pub before : List ℕ → List ℕ → Bool
before xs ys = is_less (order_of xs ys)

-- the byte order by rules and not by a computation: the first run comes before the second
pub data Earlier : List ℕ → List ℕ → Type 0 where
  begins : {y : ℕ} {ys : List ℕ} → Earlier [] (y ∷ ys)
  smaller : {x y : ℕ} {xs ys : List ℕ} → x < y → Earlier (x ∷ xs) (y ∷ ys)
  equal : {x : ℕ} {xs ys : List ℕ} → Earlier xs ys → Earlier (x ∷ xs) (x ∷ ys)
