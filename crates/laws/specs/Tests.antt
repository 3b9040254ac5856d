-- Tests on the elements of a list. Assumes nothing: these are definitions.
use Rattle.std.specs.Prelude.{List, [], ◌∷◌, Bool, true, false, cond, ◌&&◌, ◌||◌}

-- every element passes the test
unfoldable pub every : {A : Type 0} → (A → Bool) → List A → Bool
every is [] = true
every is (x ∷ xs) = let more = every is xs in cond (is x) more false

-- ---- marks: what a test has told of each element

-- one of them is set
unfoldable pub any_mark : List Bool → Bool
any_mark [] = false
any_mark (m ∷ ms) = m || any_mark ms

-- all are set
unfoldable pub all_marks : List Bool → Bool
all_marks [] = true
all_marks (m ∷ ms) = m && all_marks ms

-- two in a row are set
unfoldable pub adjacent : List Bool → Bool
adjacent [] = false
adjacent (m ∷ []) = false
adjacent (m ∷ k ∷ ms) = (m && k) || adjacent (k ∷ ms)
