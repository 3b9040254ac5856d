-- Where something wrong with a derived part can stand: not before the part, but for the name that a value is given (`low`). Assumes nothing.
use Rattle.std.specs.Prelude.{Ok, Err}
use Rattle.text.specs.declared.Fault.TheVariants.{Forbidden}
use mathlib.Core.Path.{◌≡◌, refl}
use mathlib.Core.List.{List}
use mathlib.Core.Bool.{true, false}
use Prim.Native.Nat.{ℕ, ◌+◌, ◌-◌, ◌≤◌}
use native.Mathlib.Omega.{arith}
use lib.ListN.{length}
use Rattle.text.specs.Limits.{Limits}
use Rattle.text.specs.Tree.{Bracket, Forest, none, leaf, node}
use Rattle.text.specs.Grammar.{simple_kind, Phrase, value, item, items, Is, simple, empty, full, element, member, one, comma, tree_of}
use Rattle.text.specs.Seats.{Head, Seat, under, behind, Sits}
use Rattle.text.proofs.Grammar.Stands.{clash}
use Rattle.text.proofs.Grammar.Quotes.{quoted_at, bad_later}
use Rattle.text.proofs.Grammar.Trees.{EitherOf, first, later, in_join, in_none}
use Rattle.text.proofs.Grammar.Names.{KnownName}
use Rattle.text.proofs.Grammar.Wrong.{Wrong, string, name, again, deep, many, no_string}

module _ (L : Limits) (t : List ℕ) where
  -- the name that starts at ns, after these values, is wrong
  pub data NameWrong (before : Forest) (ns : ℕ) : (number place : ℕ) → Type 0 where
    spelled : (j : ℕ) {x : ℕ} → ns ≡ j + 1 → quoted_at t j ≡ Err (Forbidden x) → NameWrong before ns 3 x
    known : {e x : ℕ} → L.unique ≡ true → ns ≡ x + 1 → quoted_at t x ≡ Ok e → KnownName t (x + 1) (e - 1) before → NameWrong before ns 4 x

  pub data Whence (before : Forest) (ns at : ℕ) (m x : ℕ) : Type 0 where
    by_name_lem : NameWrong before ns m x → Whence before ns at m x
    within : at ≤ x → Whence before ns at m x

  abbrev Lows : (a : Phrase) (w : List ℕ) → Is a w → Type 0
  Lows value w d = (c s : Seat) (h : Head) (m x ns ne at : ℕ) → Sits c (tree_of d ns ne at) s h → Wrong L t s h m x → Whence c.beside ns at m x
  Lows (item b) w d = (c s : Seat) (h : Head) (m x at : ℕ) → Sits c (tree_of d 0 0 at) s h → Wrong L t s h m x → at ≤ x
  Lows (items b) w d = (c s : Seat) (h : Head) (m x at : ℕ) → Sits c (tree_of d 0 0 at) s h → Wrong L t s h m x → at ≤ x

  -- by what stands behind it
  pub from_whence : {before : Forest} {m x : ℕ} (at : ℕ) → Whence before 0 at m x → at ≤ x
  from_whence at (by_name_lem (spelled j e z)) = absurd (omega arith)
  from_whence at (by_name_lem (known u e z n)) = absurd (omega arith)
  from_whence at (within l) = l

  member_whence : {before : Forest} {m x : ℕ} (at to : ℕ) → at ≤ to → Whence before (at + 1) to m x → at ≤ x
  member_whence {x} at to l (by_name_lem (spelled j e z)) = omega (arith, bad_later t j x z)
  member_whence at to l (by_name_lem (known u e z n)) = omega arith
  member_whence at to l (within k) = omega arith

  leaf_low : (c s : Seat) (h : Head) (m x kind ns ne at to : ℕ) → Sits c (leaf kind ns ne at to none) s h → Wrong L t s h m x → Whence c.beside ns at m x
  leaf_low c s h m x kind ns ne at to (Rattle.text.specs.Seats.leaf_on x22) _ = elim x22 [ ]
  leaf_low c s h m x kind ns ne at to Sits.leaf_here (string e z) = within (omega (arith, bad_later t at x z))
  leaf_low c s h m x kind ns ne at to Sits.leaf_here (name j e z) = by_name_lem (spelled j e z)
  leaf_low c s h m x kind ns ne at to Sits.leaf_here (again u e z n) = by_name_lem (known u e z n)
  leaf_low c s h m x kind ns ne at to Sits.leaf_here (deep o e) = clash false o refl
  leaf_low c s h m x kind ns ne at to Sits.leaf_here (many e) = within (omega arith)

  node_low : (c s : Seat) (m x : ℕ) (b : Bracket) (ns ne at to : ℕ) (inner : Forest) (h : Head) → (Sits (under c) inner s h → Wrong L t s h m x → at ≤ x)
      → Sits c (node b ns ne at to inner none) s h → Wrong L t s h m x → Whence c.beside ns at m x
  node_low c s m x b ns ne at to inner h g (Rattle.text.specs.Seats.node_on x13) w = elim x13 [ ]
  node_low c s m x b ns ne at to inner h g (Sits.into i) w = within (g i w)
  node_low c s m x b ns ne at to inner h g Sits.node_here (string e z) = absurd (no_string b e)
  node_low c s m x b ns ne at to inner h g Sits.node_here (name j e z) = by_name_lem (spelled j e z)
  node_low c s m x b ns ne at to inner h g Sits.node_here (again u e z n) = by_name_lem (known u e z n)
  node_low c s m x b ns ne at to inner h g Sits.node_here (deep o e) = within (omega arith)
  node_low c s m x b ns ne at to inner h g Sits.node_here (many e) = within (omega arith)

  join_low : (c s : Seat) (h : Head) (m x at : ℕ) (f g : Forest) → (Sits c f s h → at ≤ x) → (Sits (behind c f) g s h → at ≤ x) → EitherOf c f g s h → at ≤ x
  join_low c s h m x at f g p r (first i) = p i
  join_low c s h m x at f g p r (later i) = r i

  pub low : {a : Phrase} {w : List ℕ} (d : Is a w) → Lows a w d
  unfolding tree_of
  low (simple {w} k l) = λ c s h m x ns ne at i e. leaf_low c s h m x (simple_kind k) ns ne at (at + length w) i e
  low (empty b p) = λ c s h m x ns ne at i e. node_low c s m x b ns ne at _ none h (λ i e. in_none i) i e
  low (full {s = a} b p d) = λ c s h m x ns ne at i e. node_low c s m x b ns ne at _ _ h (λ i e. omega (arith, low d (under c) s h m x (at + 1 + length a) i e)) i e
  low (element d) = λ c s h m x at i e. from_whence at (low d c s h m x 0 0 at i e)
  low (member {m = n} {s = a} {r} g p o d) = λ c s h m x at i e. member_whence at (at + length n + length a + 1 + length r) (omega arith) (low d c s h m x _ _ _ i e)
  low (one d p) = λ c s h m x at i e. low d c s h m x at i e
  low (comma {v} {s = a} {r} d p o f) = λ c s h m x at i e.
      join_low c s h m x at (tree_of d 0 0 at) (tree_of f 0 0 (at + length v + length a + 1 + length r)) (λ j. low d c s h m x at j e)
      (λ j. omega (arith, low f (behind c (tree_of d 0 0 at)) s h m x (at + length v + length a + 1 + length r) j e)) (in_join _ _ i)
