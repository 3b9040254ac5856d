-- Runs of stores, `sets l i vs`: one run after another, a run before another, a run over part of another, a run past the end, and a run from the start of a cleared list. Assumes nothing.
use mathlib.Core.Path.{◌≡◌, refl, sym, ap, ◌∙◌}
use mathlib.Core.List.{List, [], ◌∷◌, ◌++◌}
use Prim.Native.Nat.{ℕ, zero, suc, ◌+◌, ◌-◌, ◌≤◌, ◌<◌}
use native.Mathlib.Omega.{arith}
use native.Mathlib.Nat.{add-zero, add-suc, suc-add, sub-zero, zero-sub, suc-sub-suc}
use lib.ListN.{length, set, drop, replicate}
use lib.Seq.{sets, set_out, set_comm, set-set}

-- a run of stores in two parts
pub sets_append : (xs ys l : List ℕ) (i : ℕ) → sets l i (xs ++ ys) ≡ sets (sets l i xs) (i + length xs) ys
sets_append [] ys l i = rw add-zero
sets_append (x ∷ xs) ys l i = rw (add-suc, ← suc-add) (sets_append xs ys (set l i x) (suc i))

-- past the end nothing is stored
pub sets_out : (xs l : List ℕ) (i : ℕ) → length l ≤ i → sets l i xs ≡ l
sets_out [] l i h = refl
sets_out (x ∷ xs) l i h = rw (set_out l i x h) (sets_out xs l (suc i) (omega arith))

-- a store before a run of stores may come after it
set_sets : (ys l : List ℕ) (i v j : ℕ) → i < j → set (sets l j ys) i v ≡ sets (set l i v) j ys
set_sets [] l i v j h = refl
set_sets (y ∷ ys) l i v j h =
    set_sets ys (set l j y) i v (suc j) (omega arith)
    ∙ ap (λ (m : List ℕ). sets m (suc j) ys) (set_comm l j i y v (omega arith))

-- and so may a run of stores that ends before the other starts
pub sets_before : (xs ys l : List ℕ) (i j : ℕ) → i + length xs ≤ j → sets (sets l j ys) i xs ≡ sets (sets l i xs) j ys
sets_before [] ys l i j h = refl
sets_before (x ∷ xs) ys l i j h =
    ap (λ (m : List ℕ). sets m (suc i) xs) (set_sets ys l i x j (omega arith))
    ∙ sets_before xs ys (set l i x) (suc i) j (omega arith)

-- a run of stores over another of its length leaves nothing of that
sets_twice : (xs ys l : List ℕ) (i : ℕ) → length xs ≡ length ys → sets (sets l i xs) i ys ≡ sets l i ys
sets_twice [] [] l i e = refl
sets_twice [] (y ∷ ys) l i e = absurd (omega arith)
sets_twice (x ∷ xs) [] l i e = absurd (omega arith)
sets_twice (x ∷ xs) (y ∷ ys) l i e =
    ap (λ (m : List ℕ). sets m (suc i) ys) (set_sets xs (set l i x) i y (suc i) (omega arith) ∙ ap (λ (m : List ℕ). sets m (suc i) xs) (set-set l i x y))
    ∙ sets_twice xs ys (set l i y) (suc i) (omega arith)

-- a run of stores over the middle of another
pub sets_over : (us vs ws ys l : List ℕ) (i : ℕ) → length vs ≡ length ys → sets (sets l i (us ++ (vs ++ ws))) (i + length us) ys ≡ sets l i (us ++ (ys ++ ws))
sets_over us vs ws ys l i e =
    let m = sets l i us in
    let j = i + length us in
    let far : j + length vs ≡ j + length ys = omega arith in
    ap (λ (n : List ℕ). sets n j ys) (sets_append us (vs ++ ws) l i ∙ sets_append vs ws m j)
    ∙ sets_before ys ws (sets m j vs) j (j + length vs) (omega arith)
    ∙ ap (λ (n : List ℕ). sets n (j + length vs) ws) (sets_twice vs ys m j e)
    ∙ ap (λ (n : ℕ). sets (sets m j ys) n ws) far
    ∙ sym (sets_append us (ys ++ ws) l i ∙ sets_append ys ws m j)

drop_replicate : (n m a : ℕ) → drop m (replicate n a) ≡ replicate (n - m) a
drop_replicate n zero a = rw sub-zero
drop_replicate zero (suc m) a = rw zero-sub
drop_replicate (suc n) (suc m) a = rw suc-sub-suc (drop_replicate n m a)
