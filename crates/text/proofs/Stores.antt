-- Rows that are stored in a table, values after values:
--     size-join, rows_join      the values of one forest and then those of another
--     rows-close                the rows of what is inside a container, and then the container's own row
--     rows-link                 the rows of one value, and then its parent's row and its next sibling's
--     rows_then                 the rows of some values, and then those of the values after them
-- Assumes nothing.
use mathlib.Core.Path.{◌≡◌, refl, sym, ap, ◌∙◌}
use mathlib.Core.List.{List, [], ◌∷◌, ◌++◌, append_assoc, append-nil}
use Prim.Native.Nat.{ℕ, suc, ◌+◌, ◌*◌}
use native.Mathlib.Nat.{add-zero}
use native.Mathlib.Omega.{arith}
use lib.ListN.{length}
use lib.Seq.{sets}
use Rattle.laws.proofs.Sets.{sets_append, sets_before, sets_over}
use Rattle.text.specs.Limits.{row_words}
use Rattle.text.specs.Words.{links_at}
use Rattle.text.specs.Tree.{Bracket, bracket_kind, Forest, none, leaf, node, size, row_of, first_row, rows_of, join}
use Rattle.text.specs.Firsts.{HasFirst, rest_at}
use Rattle.text.proofs.Standing.{rows_length}

pub size_join : (f g : Forest) → size (join f g) ≡ size f + size g
unfolding size join
size_join none g = omega arith
size_join (leaf kind ns ne from to rest) g = let h = size_join rest g in omega arith
size_join (node b ns ne from to inside rest) g = let h = size_join rest g in omega arith

-- the row of the first of some values and then others
first_join : (k z : ℕ) (f g : Forest) → HasFirst g → first_row k z (join f g) ≡ first_row k (k + size f) f
unfolding size join
first_join k z none none s = absurd s
first_join k z none (leaf kind ns ne from to rest) s = omega arith
first_join k z none (node b ns ne from to inside rest) s = omega arith
first_join k z (leaf kind ns ne from to rest) g s = refl
first_join k z (node b ns ne from to inside rest) g s = refl

pub rows_join : (p k z : ℕ) (f g : Forest) → HasFirst g → rows_of p k z (join f g) ≡ rows_of p k (k + size f) f ++ rows_of p (k + size f) z g
unfolding rows_of size join
rows_join p k z none g s = rw add-zero
rows_join p k z (leaf kind ns ne from to rest) g s =
    let far : k + 1 + size rest ≡ k + suc (size rest) = omega arith in
    rw (first_join (k + 1) z rest g s, rows_join p (k + 1) z rest g s, far)
rows_join p k z (node b ns ne from to inside rest) g s =
    let far : k + 1 + size inside + size rest ≡ k + suc (size inside + size rest) = omega arith in
    rw (first_join (k + 1 + size inside) z rest g s, rows_join p (k + 1 + size inside) z rest g s, far, append_assoc, append_assoc)

pub rows_close : (b : Bracket) (f : Forest) (t : List ℕ) (ns ne from to n : ℕ)
    → sets (sets t ((n + 1) * row_words) (rows_of n (n + 1) 0 f)) (n * row_words) (row_of (bracket_kind b) ns ne from to (size f) 0 0)
    ≡ sets t (n * row_words) (rows_of 0 n 0 (node b ns ne from to f none))
unfolding rows_of
rows_close b f t ns ne from to n =
    let row : List ℕ = row_of (bracket_kind b) ns ne from to (size f) 0 0 in
    let rows : List ℕ = rows_of n (n + 1) 0 f in
    let e : (n + 1) * row_words ≡ n * row_words + row_words = omega arith in
    sets_before row rows t (n * row_words) ((n + 1) * row_words) (omega arith)
    ∙ ap (λ (k : ℕ). sets (sets t (n * row_words) row) k rows) e
    ∙ sym (sets_append row rows t (n * row_words))
    ∙ ap (λ (l : List ℕ). sets t (n * row_words) (row ++ l)) (sym (append-nil rows))

-- the rows of one value that has no links yet, and then its links
pub rows_link : (f : Forest) (t : List ℕ) (n p z : ℕ) → HasFirst f → rest_at f ≡ none
    → sets (sets t (n * row_words) (rows_of 0 n 0 f)) (links_at n) (p ∷ z ∷ []) ≡ sets t (n * row_words) (rows_of p n z f)
unfolding rows_of
rows_link none t n p z s e = absurd s
rows_link (leaf kind ns ne from to rest) t n p z s e =
    rw e (sets_over (kind ∷ ns ∷ ne ∷ from ∷ to ∷ 0 ∷ []) (0 ∷ 0 ∷ []) [] (p ∷ z ∷ []) t (n * row_words) refl)
rows_link (node b ns ne from to inside rest) t n p z s e =
    rw e
    (sets_over (bracket_kind b ∷ ns ∷ ne ∷ from ∷ to ∷ size inside ∷ []) (0 ∷ 0 ∷ []) (rows_of n (n + 1) 0 inside ++ []) (p ∷ z ∷ []) t (n * row_words) refl)

pub rows_then : (p z : ℕ) (f g : Forest) (t : List ℕ) (n m : ℕ) → m ≡ n + size f → HasFirst g
    → sets (sets t (n * row_words) (rows_of p n m f)) (m * row_words) (rows_of p m z g) ≡ sets t (n * row_words) (rows_of p n z (join f g))
rows_then p z f g t n m h s =
    let e : m * row_words ≡ n * row_words + length (rows_of p n m f) = omega (arith, rows_length p n m f) in
    rw (e, rows_join p n z f g s, ← h) (sym (sets_append (rows_of p n m f) (rows_of p m z g) t (n * row_words)))
