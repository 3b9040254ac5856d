-- Parts of a list, and a lent buffer that is filled. Assumes nothing: these are definitions.
use Rattle.std.specs.Prelude.{ℕ, ◌-◌, ◌≤◌, List, [], ◌++◌, cond, length, take, drop, replicate, leb}

-- the elements from s up to e, or none where they are not inside
unfoldable pub part_of : List ℕ → ℕ → ℕ → List ℕ
part_of t s e = cond (leb e (length t)) (cond (leb s e) (take (e - s) (drop s t)) []) []

-- a run of a list: its places lo up to hi
abbrev pub RunIn : (xs : List ℕ) (lo hi : ℕ) → Type 0
RunIn xs lo hi = (lo ≤ hi) × (hi ≤ length xs)

-- a lent buffer of n words or bytes that holds xs and nothing else: what is unused is zero; with no xs it is all zero
abbrev pub filled : ℕ → List ℕ → List ℕ
filled n xs = xs ++ replicate (n - length xs) 0
