-- Where a value stands in a tree with one root whose rows stand in a table: first of values that are the last ones in their container.
--     Low, Place      their rows end with those below the container, from which the root is reached by parents; or the first is the root
--     Part, Spot      what is said of such values is said of the tree; and what holds another in the tree, and has its row among theirs, does so among them
--     spot            each value of the tree is first of such values
-- Assumes nothing.
use Prim.Native.Nat.{ℕ, suc, ◌+◌, ◌≤◌, ◌<◌}
use mathlib.Core.Path.{◌≡◌, refl, subst}
use mathlib.Core.List.{List}
use native.Mathlib.Omega.{arith}
use Rattle.text.specs.Words.{below_in, parent_in}
use Rattle.text.specs.Tree.{Bracket, Forest, none, leaf, node, size}
use Rattle.text.specs.Grammar.{depth_of}
use Rattle.text.specs.Seats.{Head, Seat, top, under, behind, Sits}
use Rattle.text.specs.Standing.{Stands}
use Rattle.text.specs.Firsts.{HasFirst, inside_at, below_at, head_at, rest_at}
use Rattle.text.specs.Kin.{Among, Holds, Follows, ParentRow, Ascent}
use Rattle.text.proofs.Standing.{first_of, first_row_lem, inside, next, first_and_rest}
use Rattle.text.proofs.Grammar.Trees.{in_few, in_from}
use Rattle.text.proofs.Kin.Links.{Linked, behind_row, first_links, inside_linked, rest_linked, among_first}

-- ---- who holds ----

-- what holds another is a value
holder : {c d e : Seat} {f : Forest} → Holds c f d e → (h : Head) × Sits c f d h
holder (Holds.here a) = (_, Sits.node_here)
holder (Holds.into j) = let (h, i) = holder j in (h, Sits.into i)
holder (Holds.leaf_on j) = let (h, i) = holder j in (h, Sits.leaf_on i)
holder (Holds.node_on j) = let (h, i) = holder j in (h, Sits.node_on i)

-- by its row it is the first of some values itself, or inside it, or behind it
pub holds_here : {c d e : Seat} {f : Forest} → d.after ≡ c.after → Holds c f d e → Among (under c) (inside_at f) e
unfolding size
holds_here q (Holds.here a) = a
holds_here q (Holds.into j) = absurd (omega (arith, in_from (holder j).1))
holds_here q (Holds.leaf_on j) = absurd (omega (arith, in_from (holder j).1))
holds_here q (Holds.node_on j) = absurd (omega (arith, in_from (holder j).1))

holds_inside : {c d e : Seat} {f : Forest} → c.after + 1 ≤ d.after → d.after < c.after + 1 + below_at f → Holds c f d e → Holds (under c) (inside_at f) d e
unfolding size
holds_inside l u (Holds.here a) = absurd (omega arith)
holds_inside l u (Holds.into j) = j
holds_inside l u (Holds.leaf_on j) = absurd (omega (arith, in_from (holder j).1))
holds_inside l u (Holds.node_on j) = absurd (omega (arith, in_from (holder j).1))

holds_behind : {c d e : Seat} {f : Forest} → c.after + 1 + below_at f ≤ d.after → Holds c f d e → Holds (behind c (first_of f)) (rest_at f) d e
holds_behind l (Holds.here a) = absurd (omega arith)
holds_behind l (Holds.into j) = absurd (omega (arith, in_few (holder j).1))
holds_behind l (Holds.leaf_on j) = j
holds_behind l (Holds.node_on j) = j

-- ---- rows that end with those below a container ----

-- values, of which the first stands at c, are the last ones in a container of row p, and from that row the root is reached in one step less
pub record Low (t : List ℕ) (p : ℕ) (c : Seat) (f : Forest) : Type 0 where
  pub before : p < c.after
  pub ends : c.after + size f ≡ p + 1 + below_in t p
  pub steps : ℕ
  pub ascent : Ascent t p steps
  pub around : c.inside ≡ suc steps

-- or the first is the root, behind which is nothing
pub data Place (t : List ℕ) : (p : ℕ) (c : Seat) → Forest → Type 0 where
  root : {f : Forest} → rest_at f ≡ none → Place t 0 top f
  low : {p : ℕ} {c : Seat} {f : Forest} → Low t p c f → Place t p c f
  past : {p : ℕ} {c : Seat} → Place t p c none

pub place_low : {t : List ℕ} {p : ℕ} {c : Seat} {f : Forest} → HasFirst f → 0 < c.after → Place t p c f → Low t p c f
place_low s o (Place.root one) = absurd (omega arith)
place_low s o (Place.low l) = l
place_low s o Place.past = absurd s

-- the root has nothing behind it
pub place_more : {t : List ℕ} {p : ℕ} {c : Seat} {f : Forest} → HasFirst (rest_at f) → Place t p c f → Low t p c f
place_more r (Place.root one) = absurd (rw one at r)
place_more r (Place.low l) = l
place_more r Place.past = absurd r

pub place_root : {t : List ℕ} {p : ℕ} {c : Seat} {f : Forest} → HasFirst f → c.after ≡ 0 → Place t p c f → (p ≡ 0) × (rest_at f ≡ none)
place_root s z (Place.root one) = (refl, one)
place_root s z (Place.low l) = absurd (omega (arith, l.before))
place_root s z Place.past = absurd s

pub place_ascent : {t : List ℕ} {p : ℕ} {c : Seat} {f : Forest} → HasFirst f → parent_in t c.after ≡ p → Place t p c f → Ascent t c.after c.inside
place_ascent s q (Place.root one) = Ascent.there
place_ascent {c = c} s q (Place.low l) =
    let o : 0 < c.after = omega (arith, l.before) in
    rw l.around (Ascent.up {steps = l.steps} o (rw q l.ascent))
place_ascent s q Place.past = absurd s

low_rest : {t : List ℕ} {p : ℕ} {c : Seat} (f : Forest) → HasFirst f → Low t p c f → Low t p (behind c (first_of f)) (rest_at f)
low_rest {c = c} f s l =
    let row = behind_row c f s in
    record { before = omega (arith, l.before); ends = omega (arith, l.ends, first_and_rest f s); steps = l.steps; ascent = l.ascent; around = l.around }

place_rest : {t : List ℕ} {p : ℕ} {c : Seat} (f : Forest) → HasFirst f → Place t p c f → Place t p (behind c (first_of f)) (rest_at f)
place_rest f s (Place.root one) = rw one Place.past
place_rest f s (Place.low l) = Place.low (low_rest f s l)
place_rest none s Place.past = absurd s

low_inside : {t : List ℕ} {p : ℕ} (c : Seat) (f : Forest) → HasFirst f → Linked t p c.after 0 f → Stands t c.after f → Place t p c f
    → Low t c.after (under c) (inside_at f)
low_inside c f s l h i =
    record {
      before = omega arith;
      ends = omega (arith, (first_row_lem f s h).below);
      steps = c.inside;
      ascent = place_ascent s (first_links c f s l).parent i;
      around = omega arith;
    }

-- ---- values up to the end of their container ----

-- the values g of the tree f, of which the first stands at c, are the last ones in a container of row p
pub record Part (t : List ℕ) (f : Forest) (p : ℕ) (c : Seat) (g : Forest) : Type 0 where
  pub linked : Linked t p c.after 0 g
  pub stands : Stands t c.after g
  pub place : Place t p c g
  pub deep : c.inside + depth_of g ≤ depth_of f
  -- what is said of them is said of the tree
  pub among : (e : Seat) → Among c g e → ParentRow f e p
  pub holds : (d e : Seat) → Holds c g d e → Holds top f d e
  pub follows : (d e : Seat) → Follows c g d e → Follows top f d e
  -- and what holds in the tree, and has its row here, holds here
  pub only : (d e : Seat) → c.after ≤ d.after → d.after < c.after + size g → Holds top f d e → Holds c g d e

inside_part : {t : List ℕ} {f : Forest} {p : ℕ} {c : Seat} {b : Bracket} {ns ne from to : ℕ} {inner rest : Forest}
    → Part t f p c (node b ns ne from to inner rest) → Part t f c.after (under c) inner
unfolding size depth_of
inside_part {c = c} {b = b} {ns = ns} {ne = ne} {from = from} {to = to} {inner = inner} {rest = rest} h =
    let g : Forest = node b ns ne from to inner rest in
    record {
      linked = inside_linked g tt h.linked;
      stands = (inside g tt h.stands).stands;
      place = Place.low (low_inside c g tt h.linked h.stands h.place);
      deep = omega (arith, h.deep);
      among = λ e a. ParentRow.held (h.holds c e (Holds.here a));
      holds = λ d e j. h.holds d e (Holds.into j);
      follows = λ d e j. h.follows d e (Follows.into j);
      only = λ d e l u j. holds_inside l u (h.only d e (omega arith) (omega arith) j);
    }

rest_depth : (f : Forest) → depth_of (rest_at f) ≤ depth_of f
unfolding depth_of
rest_depth none = omega arith
rest_depth (leaf kind ns ne from to rest) = omega arith
rest_depth (node b ns ne from to inner rest) = omega arith

module _ {t : List ℕ} {f : Forest} {p : ℕ} {c : Seat} (g : Forest) (s : HasFirst g)
    (on-among : (e : Seat) → Among (behind c (first_of g)) (rest_at g) e → Among c g e)
    (on-holds : (d e : Seat) → Holds (behind c (first_of g)) (rest_at g) d e → Holds c g d e)
    (on-follows : (d e : Seat) → Follows (behind c (first_of g)) (rest_at g) d e → Follows c g d e) where
  rest_part : Part t f p c g → Part t f p (behind c (first_of g)) (rest_at g)
  rest_part h =
      let row = behind_row c g s in
      let parts = first_and_rest g s in
      record {
        linked = rest_linked c g s h.linked;
        stands = rw (← row) (next g s h.stands);
        place = place_rest g s h.place;
        deep = omega (arith, h.deep, rest_depth g);
        among = λ e a. h.among e (on-among e a);
        holds = λ d e j. h.holds d e (on-holds d e j);
        follows = λ d e j. h.follows d e (on-follows d e j);
        only = λ d e l u j. holds_behind (omega arith) (h.only d e (omega arith) (omega arith) j);
      }

-- the value h of the tree f stands at d, first of such values
pub record Spot (t : List ℕ) (f : Forest) (d : Seat) (h : Head) : Type 0 where
  pub row : ℕ
  pub values : Forest
  pub first : HasFirst values
  pub head : head_at values ≡ h
  pub part : Part t f row d values

spot_in : {t : List ℕ} {f g : Forest} {p : ℕ} {c d : Seat} {h : Head} → Part t f p c g → Sits c g d h → Spot t f d h
unfolding size
spot_in {g = g} {p = p} i Sits.leaf_here = record { row = p; values = g; first = tt; head = refl; part = i }
spot_in {g = g} {p = p} i Sits.node_here = record { row = p; values = g; first = tt; head = refl; part = i }
spot_in i (Sits.into j) = spot_in (inside_part i) j
spot_in {g = g} i (Sits.leaf_on j) = spot_in (rest_part g tt (λ e. Among.leaf_on) (λ d e. Holds.leaf_on) (λ d e. Follows.leaf_on) i) j
spot_in {g = g} i (Sits.node_on j) = spot_in (rest_part g tt (λ e. Among.node_on) (λ d e. Holds.node_on) (λ d e. Follows.node_on) i) j

-- one root has no value beside it
root_alone : {c e : Seat} {f : Forest} → rest_at f ≡ none → Among c f e → e ≡ c
root_alone one Among.leaf_here = refl
root_alone one Among.node_here = refl
root_alone one (Among.leaf_on a) = absurd (subst HasFirst one (among_first a))
root_alone one (Among.node_on a) = absurd (subst HasFirst one (among_first a))

pub spot : {t : List ℕ} {f : Forest} → rest_at f ≡ none → Linked t 0 0 0 f → Stands t 0 f → {d : Seat} {h : Head} → Sits top f d h → Spot t f d h
spot one linked stands i =
    spot_in
    (record {
      linked = linked;
      stands = stands;
      place = Place.root one;
      deep = omega arith;
      among = λ e a. rw (root_alone one a) ParentRow.root;
      holds = λ d e j. j;
      follows = λ d e j. j;
      only = λ d e l u j. j;
    })
    i
