-- The links of values that stand in a table, by the tree:
--     first-links, inside-linked, rest-linked      the links of the first of some values, of what is inside it and of what follows it
--     among-parent, holds-parent                   the parent's row is that of the container in which a value directly stands
--     follows_next                                 the next sibling's row is that of the value that follows, which is not 0
-- Assumes nothing.
use Prim.Native.Nat.{ℕ, ◌+◌, ◌<◌}
use mathlib.Core.Path.{◌≡◌, refl, sym, ap, ◌∙◌}
use mathlib.Core.List.{List}
use native.Mathlib.Omega.{arith}
use Rattle.text.specs.Words.{parent_in, sibling_in}
use Rattle.text.specs.Tree.{Forest, none, leaf, node, size, first_row}
use Rattle.text.specs.Seats.{Seat, behind}
use Rattle.text.specs.Firsts.{HasFirst, inside_at, below_at, rest_at}
use Rattle.text.specs.Kin.{Among, Holds, Follows}
use Rattle.text.proofs.Standing.{LinksAt, LinkedAt, first_of}

-- ---- the first of some values ----

-- `LinkedAt` as a record, so that what it speaks of is found
pub record Linked (t : List ℕ) (p k z : ℕ) (f : Forest) : Type 0 where
  pub rows : LinkedAt t p k z f

-- what follows the first value stands behind what is inside it
pub behind_row : (c : Seat) (f : Forest) → HasFirst f → c.after + 1 + below_at f ≡ (behind c (first_of f)).after
unfolding size
behind_row c none s = absurd s
behind_row c (leaf kind ns ne from to rest) s = omega arith
behind_row c (node b ns ne from to inner rest) s = omega arith

-- its own links: the next sibling is the value that stands there
pub first_links : {t : List ℕ} {p z : ℕ} (c : Seat) (f : Forest) → HasFirst f → Linked t p c.after z f
    → LinksAt t c.after p (first_row (behind c (first_of f)).after z (rest_at f))
unfolding size
first_links c none s l = absurd s
first_links c (leaf kind ns ne from to rest) s l = l.rows.0
first_links c (node b ns ne from to inner rest) s l = rw (← behind_row c (node b ns ne from to inner rest) tt) l.rows.0

-- what is inside it has its row as the parent's, and nothing behind the last one
pub inside_linked : {t : List ℕ} {p k z : ℕ} (f : Forest) → HasFirst f → Linked t p k z f → Linked t k (k + 1) 0 (inside_at f)
inside_linked none s l = absurd s
inside_linked (leaf kind ns ne from to rest) s l = record { rows = tt }
inside_linked (node b ns ne from to inner rest) s l = record { rows = l.rows.1 }

-- what follows it has the same parent
pub rest_linked : {t : List ℕ} {p z : ℕ} (c : Seat) (f : Forest) → HasFirst f → Linked t p c.after z f → Linked t p (behind c (first_of f)).after z (rest_at f)
unfolding size
rest_linked c none s l = absurd s
rest_linked c (leaf kind ns ne from to rest) s l = record { rows = l.rows.1 }
rest_linked c (node b ns ne from to inner rest) s l = rw (← behind_row c (node b ns ne from to inner rest) tt) (record { rows = l.rows.2 })

pub first_some : (n z : ℕ) (f : Forest) → HasFirst f → first_row n z f ≡ n
first_some n z none s = absurd s
first_some n z (leaf kind ns ne from to rest) s = refl
first_some n z (node b ns ne from to inner rest) s = refl

-- there is nothing, or a first value
pub data Ahead (f : Forest) : Type 0 where
  nothing : size f ≡ 0 → ((n z : ℕ) → first_row n z f ≡ z) → Ahead f
  some : HasFirst f → Ahead f

pub ahead : (f : Forest) → Ahead f
unfolding size
ahead none = Ahead.nothing refl (λ n z. refl)
ahead (leaf kind ns ne from to rest) = Ahead.some tt
ahead (node b ns ne from to inner rest) = Ahead.some tt

-- ---- in the tree ----

pub among_first : {c e : Seat} {f : Forest} → Among c f e → HasFirst f
among_first Among.leaf_here = tt
among_first Among.node_here = tt
among_first (Among.leaf_on a) = tt
among_first (Among.node_on a) = tt

pub first_among : {c : Seat} (f : Forest) → HasFirst f → Among c f c
first_among none s = absurd s
first_among (leaf kind ns ne from to rest) s = Among.leaf_here
first_among (node b ns ne from to inner rest) s = Among.node_here

among_parent : {t : List ℕ} {p z : ℕ} {c e : Seat} {f : Forest} → Linked t p c.after z f → Among c f e → parent_in t e.after ≡ p
among_parent l Among.leaf_here = l.rows.0.parent
among_parent l Among.node_here = l.rows.0.parent
among_parent {c = c} {f = f} l (Among.leaf_on a) = among_parent (rest_linked c f tt l) a
among_parent {c = c} {f = f} l (Among.node_on a) = among_parent (rest_linked c f tt l) a

pub holds_parent : {t : List ℕ} {c d e : Seat} {f : Forest} {p z : ℕ} → Linked t p c.after z f → Holds c f d e → parent_in t e.after ≡ d.after
holds_parent {f = f} l (Holds.here a) = among_parent (inside_linked f tt l) a
holds_parent {f = f} l (Holds.into j) = holds_parent (inside_linked f tt l) j
holds_parent {c = c} {f = f} l (Holds.leaf_on j) = holds_parent (rest_linked c f tt l) j
holds_parent {c = c} {f = f} l (Holds.node_on j) = holds_parent (rest_linked c f tt l) j

next_first : {t : List ℕ} {p z : ℕ} {e : Seat} (c : Seat) (f : Forest) → HasFirst f → Linked t p c.after z f → e ≡ behind c (first_of f) → HasFirst (rest_at f)
    → (sibling_in t c.after ≡ e.after) × (0 < e.after)
next_first {z = z} {e = e} c f s l q r =
    let place : e.after ≡ (behind c (first_of f)).after = ap (λ (x : Seat). x.after) q in
    ((first_links c f s l).next ∙ first_some (behind c (first_of f)).after z (rest_at f) r ∙ sym place, omega (arith, behind_row c f s))

pub follows_next : {t : List ℕ} {c d e : Seat} {f : Forest} {p z : ℕ} → Linked t p c.after z f → Follows c f d e
    → (sibling_in t d.after ≡ e.after) × (0 < e.after)
follows_next {c = c} {f = f} l (Follows.leaf_here q a) = next_first c f tt l q (among_first a)
follows_next {c = c} {f = f} l (Follows.node_here q a) = next_first c f tt l q (among_first a)
follows_next {f = f} l (Follows.into j) = follows_next (inside_linked f tt l) j
follows_next {c = c} {f = f} l (Follows.leaf_on j) = follows_next (rest_linked c f tt l) j
follows_next {c = c} {f = f} l (Follows.node_on j) = follows_next (rest_linked c f tt l) j
