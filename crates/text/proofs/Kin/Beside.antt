-- The rows of values one beside the other, not looking inside them:
--     among-row, row-among      they are the rows of just these values
--     rows-climb                each is less than all that follow it
--     rows-line                 they are passed by next siblings from the first one on, where the values are the last ones in their container
-- Assumes nothing.
use Prim.Native.Nat.{ℕ, ◌≤◌, ◌<◌}
use mathlib.Core.Path.{◌≡◌, refl}
use mathlib.Core.List.{List, [], ◌∷◌}
use native.Mathlib.Omega.{arith}
use Rattle.laws.specs.Each.{Some}
use Rattle.laws.specs.Each as each
use Rattle.laws.specs.Earliest.{Climbs, up_none, up_more}
use Rattle.text.specs.Words.{sibling_in}
use Rattle.text.specs.Tree.{Forest, none, leaf, node, size, first_row}
use Rattle.text.specs.Seats.{Seat, behind}
use Rattle.text.specs.Firsts.{HasFirst}
use Rattle.text.specs.Kin.{Among, Line}
use Rattle.text.proofs.Standing.{first_of}
use Rattle.text.proofs.Kin.Links.{Linked, behind_row, first_links, rest_linked}

abbrev pub rows_beside : Seat → Forest → List ℕ
rows_beside c none = []
rows_beside c (leaf kind ns ne from to rest) = c.after ∷ rows_beside (behind c (leaf kind ns ne from to none)) rest
rows_beside c (node b ns ne from to inner rest) = c.after ∷ rows_beside (behind c (node b ns ne from to inner none)) rest

pub among_row : {c e : Seat} {f : Forest} → Among c f e → Some (λ x. x ≡ e.after) (rows_beside c f)
among_row Among.leaf_here = each.here refl
among_row Among.node_here = each.here refl
among_row (Among.leaf_on a) = each.later (among_row a)
among_row (Among.node_on a) = each.later (among_row a)

pub row_among : {row : ℕ} (c : Seat) (f : Forest) → Some (λ x. x ≡ row) (rows_beside c f) → (e : Seat) × Among c f e × (e.after ≡ row)
row_among {row = row} c none x' = elim x' [ ]
row_among c (leaf kind ns ne from to rest) (each.here q) = (c, Among.leaf_here, q)
row_among c (leaf kind ns ne from to rest) (each.later m) =
    let (e, a, q) = row_among (behind c (leaf kind ns ne from to none)) rest m in
    (e, Among.leaf_on a, q)
row_among c (node b ns ne from to inner rest) (each.here q) = (c, Among.node_here, q)
row_among c (node b ns ne from to inner rest) (each.later m) =
    let (e, a, q) = row_among (behind c (node b ns ne from to inner none)) rest m in
    (e, Among.node_on a, q)

-- ---- their order ----

rows_from : {row : ℕ} (c : Seat) (f : Forest) → Some (λ x. x ≡ row) (rows_beside c f) → c.after ≤ row
rows_from {row = row} c none x' = elim x' [ ]
rows_from c (leaf kind ns ne from to rest) (each.here q) = omega arith
rows_from c (leaf kind ns ne from to rest) (each.later m) = omega (arith, rows_from (behind c (leaf kind ns ne from to none)) rest m)
rows_from c (node b ns ne from to inner rest) (each.here q) = omega arith
rows_from c (node b ns ne from to inner rest) (each.later m) = omega (arith, rows_from (behind c (node b ns ne from to inner none)) rest m)

climb_on : (k : ℕ) (c : Seat) (f : Forest) → k < c.after → Climbs (rows_beside c f) → Climbs (k ∷ rows_beside c f)
climb_on k c f o h = up_more {p = k} {ps = rows_beside c f} (λ q m. omega (arith, rows_from c f m)) h

pub rows_climb : (c : Seat) (f : Forest) → Climbs (rows_beside c f)
unfolding size
rows_climb c none = up_none
rows_climb c (leaf kind ns ne from to rest) =
    let d = behind c (leaf kind ns ne from to none) in
    climb_on c.after d rest (omega arith) (rows_climb d rest)
rows_climb c (node b ns ne from to inner rest) =
    let d = behind c (node b ns ne from to inner none) in
    climb_on c.after d rest (omega arith) (rows_climb d rest)

-- ---- from sibling to sibling ----

line_more : {t : List ℕ} (k n : ℕ) (rows : List ℕ) → sibling_in t k ≡ n → 0 < n → Line t n rows → Line t k (k ∷ rows)
line_more k n rows q o l = Line.on {row = k} {rows = rows} (rw q o) (rw q l)

-- of what follows a value of row k
line_on : {t : List ℕ} (k : ℕ) (c : Seat) (f : Forest) → sibling_in t k ≡ first_row c.after 0 f → 0 < c.after → (HasFirst f → Line t c.after (rows_beside c f))
    → Line t k (k ∷ rows_beside c f)
line_on k c none q o more = Line.end q
line_on k c (leaf kind ns ne from to rest) q o more = line_more k c.after (rows_beside c (leaf kind ns ne from to rest)) q o (more tt)
line_on k c (node b ns ne from to inner rest) q o more = line_more k c.after (rows_beside c (node b ns ne from to inner rest)) q o (more tt)

pub rows_line : {t : List ℕ} {p : ℕ} (c : Seat) (f : Forest) → HasFirst f → Linked t p c.after 0 f → Line t c.after (rows_beside c f)
rows_line c none s l = absurd s
rows_line c (leaf kind ns ne from to rest) s l =
    let f : Forest = leaf kind ns ne from to rest in
    let d = behind c (first_of f) in
    line_on c.after d rest (first_links c f tt l).next (omega (arith, behind_row c f tt)) (λ r. rows_line d rest r (rest_linked c f tt l))
rows_line c (node b ns ne from to inner rest) s l =
    let f : Forest = node b ns ne from to inner rest in
    let d = behind c (first_of f) in
    line_on c.after d rest (first_links c f tt l).next (omega (arith, behind_row c f tt)) (λ r. rows_line d rest r (rest_linked c f tt l))
