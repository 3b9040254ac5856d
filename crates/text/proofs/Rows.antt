-- The rows of a table that the values of a tree stand in, word by word:
--     row_at, value-start        a value's row says what it is by itself; so the value starts where it says
--     row_inside, row-filled     the values sit in the rows before `size f`, and in each of these sits one
--     one_value                  and no other
-- Assumes nothing.
use mathlib.Core.Path.{◌≡◌, refl, sym, ap, subst, ◌∙◌}
use mathlib.Core.List.{List, [], append-nil}
use lib.ListN.{get_or}
use Prim.Native.Nat.{ℕ, ◌+◌, ◌≤◌, ◌<◌}
use native.Mathlib.Nat.{zero-add}
use native.Mathlib.Omega.{arith}
use Rattle.text.specs.Tree.{Forest, none, leaf, node, size, tree_rows, starts_of}
use Rattle.text.specs.Seats.{Head, Seat, top, under, behind, Sits}
use Rattle.text.specs.Words.{start_in}
use Rattle.text.specs.Standing.{Stands, RowAt}
use Rattle.text.specs.Firsts.{below_at}
use Rattle.text.proofs.Standing.{rows_stand, first_row_lem, inside, next, start_at_lem}
use Rattle.text.proofs.Grammar.Stands.{by_order}
use Rattle.text.proofs.Grammar.Trees.{in_few, in_from}

-- ---- the words of a row ----

row_in : {table : List ℕ} {c d : Seat} {h : Head} {f : Forest} → Stands table c.after f → Sits c f d h → RowAt table d.after h
unfolding size
row_in {f = f} s Sits.leaf_here = first_row_lem f tt s
row_in {f = f} s Sits.node_here = first_row_lem f tt s
row_in {f = f} s (Sits.into i) = row_in (inside f tt s).stands i
row_in {table} {c} {f = f} s (Sits.leaf_on {rest = rest} i) =
    let place : c.after + 1 + below_at f ≡ c.after + (1 + below_at f) = omega arith in
    row_in (subst (λ (k : ℕ). Stands table k rest) place (next f tt s)) i
row_in {table} {c} {f = f} s (Sits.node_on {b = b} {ns = ns} {ne = ne} {from = from} {to = to} {inner = inner} {rest = rest} i) =
    let place : c.after + 1 + below_at f ≡ c.after + size (node b ns ne from to inner none) = omega arith in
    row_in (subst (λ (k : ℕ). Stands table k rest) place (next f tt s)) i

-- theorem: a value's row says what it is by itself
pub row_at : (table : List ℕ) (f : Forest) → Stands table 0 f → (d : Seat) (h : Head) → Sits top f d h → RowAt table d.after h
row_at table f s d h i = row_in s i

-- theorem: where a value starts, by its row
pub value_start : (f : Forest) {d : Seat} {h : Head} → Sits top f d h → get_or (starts_of f) d.after 0 ≡ h.from
value_start f {d} {h} i =
    let s : Stands (tree_rows f) 0 f = rows_stand (tree_rows f) 0 0 0 f [] (omega arith) (sym (append-nil (tree_rows f))) in
    let e = start_at_lem f (record { stands = s; ends = refl }) d.after (omega (arith, in_few i)) in
    e ∙ ap (start_in (tree_rows f)) (zero-add d.after) ∙ (row_at (tree_rows f) f s d h i).start

-- ---- each row has one value ----

-- theorem: a value sits in one of the rows
pub row_inside : (f : Forest) (d : Seat) (h : Head) → Sits top f d h → d.after < size f
row_inside f d h i = omega (arith, in_few i)

-- a value sits in the row k, if the first of the values f stands at c
pub record SitsIn (c : Seat) (f : Forest) (k : ℕ) : Type 0 where
  pub seat : Seat
  pub head : Head
  pub there : Sits c f seat head
  pub row : seat.after ≡ k

filled_in : (f : Forest) (c : Seat) (k : ℕ) → c.after ≤ k → k < c.after + size f → SitsIn c f k
unfolding size
filled_in none c k l u = absurd (omega arith)
filled_in (leaf kind ns ne from to rest) c k l u =
    by_order c.after k
    (λ o. let r = filled_in rest (behind c (leaf kind ns ne from to none)) k (omega arith) (omega arith) in record {
      seat = r.seat;
      head = r.head;
      there = Sits.leaf_on r.there;
      row = r.row;
    })
    (λ o. record { seat = c; head = _; there = Sits.leaf_here; row = omega arith })
filled_in (node b ns ne from to inner rest) c k l u =
    by_order c.after k
    (λ o. by_order k (c.after + 1 + size inner)
    (λ n. let r = filled_in inner (under c) k (omega arith) (omega arith) in record { seat = r.seat; head = r.head; there = Sits.into r.there; row = r.row })
    (λ n. let r = filled_in rest (behind c (node b ns ne from to inner none)) k (omega arith) (omega arith) in record {
      seat = r.seat;
      head = r.head;
      there = Sits.node_on r.there;
      row = r.row;
    }))
    (λ o. record { seat = c; head = _; there = Sits.node_here; row = omega arith })

-- theorem: in each of the rows sits a value
pub row_filled : (f : Forest) (k : ℕ) → k < size f → SitsIn top f k
row_filled f k l = filled_in f top k (omega arith) (omega arith)

one_in : {c d e : Seat} {g h : Head} {f : Forest} → Sits c f d g → Sits c f e h → d.after ≡ e.after → (d ≡ e) × (g ≡ h)
unfolding size
one_in Sits.leaf_here Sits.leaf_here r = (refl, refl)
one_in Sits.leaf_here (Sits.leaf_on j) r = absurd (omega (arith, in_from j))
one_in (Sits.leaf_on i) Sits.leaf_here r = absurd (omega (arith, in_from i))
one_in (Sits.leaf_on i) (Sits.leaf_on j) r = one_in i j r
one_in Sits.node_here Sits.node_here r = (refl, refl)
one_in Sits.node_here (Sits.into j) r = absurd (omega (arith, in_from j))
one_in Sits.node_here (Sits.node_on j) r = absurd (omega (arith, in_from j))
one_in (Sits.into i) Sits.node_here r = absurd (omega (arith, in_from i))
one_in (Sits.into i) (Sits.into j) r = one_in i j r
one_in (Sits.into i) (Sits.node_on j) r = absurd (omega (arith, in_few i, in_from j))
one_in (Sits.node_on i) Sits.node_here r = absurd (omega (arith, in_from i))
one_in (Sits.node_on i) (Sits.into j) r = absurd (omega (arith, in_from i, in_few j))
one_in (Sits.node_on i) (Sits.node_on j) r = one_in i j r

-- theorem: no two values sit in one row
pub one_value : (f : Forest) (d e : Seat) (g h : Head) → Sits top f d g → Sits top f e h → d.after ≡ e.after → (d ≡ e) × (g ≡ h)
one_value f d e g h i j r = one_in i j r
