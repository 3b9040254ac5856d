-- What is wrong with a value of a tree, in the words of the reading definitions: a string or a name that is refused with 3, a name that spells what one
-- before it in its object spells, a container too deep, a value too many; and which of two wrongs comes first (`rank`).
--     kept-leaf, kept-node, kept-join, kept-none     how values that are read are put together
-- Assumes nothing.
use Rattle.std.specs.Prelude.{Ok, Err}
use Rattle.text.specs.declared.Fault.TheVariants.{Forbidden}
use mathlib.Core.Path.{◌≡◌}
use mathlib.Core.List.{List}
use mathlib.Core.Bool.{true, false}
use Prim.Native.Nat.{ℕ, suc, ◌+◌, ◌-◌, ◌*◌, ◌≤◌, ◌<◌}
use native.Mathlib.Omega.{arith}
use Rattle.text.specs.Limits.{Limits}
use Rattle.text.specs.Strings.{name_of}
use Rattle.text.specs.Tree.{Bracket, square, curly, bracket_kind, Forest, none, leaf, node, size, join}
use Rattle.text.specs.Reader.{named}
use Rattle.text.specs.Grammar.{depth_of}
use Rattle.text.specs.Seats.{Head, Seat, under, behind, Sits}
use Rattle.text.proofs.Grammar.Quotes.{quoted_at}
use Rattle.text.proofs.Grammar.Trees.{size_join, depth_join, EitherOf, first, later, in_join, in_none}
use Rattle.text.proofs.Grammar.Names.{KnownName}

-- the smaller place first, then the smaller number; the numbers are 2 to 6
abbrev pub rank : (number place : ℕ) → ℕ
rank n p = 8 * p + n

pub no_string : (b : Bracket) → bracket_kind b ≡ 5 → ⊥
no_string square e = omega arith
no_string curly e = omega arith

module _ (L : Limits) (t : List ℕ) where
  -- the value h, which stands at d, breaks the rule of that number at that place
  pub data Wrong (d : Seat) (h : Head) : (number place : ℕ) → Type 0 where
    string : {x : ℕ} → h.kind ≡ 5 → quoted_at t h.from ≡ Err (Forbidden x) → Wrong d h 3 x
    name : (j : ℕ) {x : ℕ} → h.ns ≡ j + 1 → quoted_at t j ≡ Err (Forbidden x) → Wrong d h 3 x
    again : {e x : ℕ} → L.unique ≡ true → h.ns ≡ x + 1 → quoted_at t x ≡ Ok e → KnownName t (x + 1) (e - 1) d.beside → Wrong d h 4 x
    deep : h.holds ≡ true → d.inside ≡ L.depth → Wrong d h 5 h.from
    many : d.after ≡ L.values → Wrong d h 6 h.from

  -- a name that is read, after these values
  pub record GoodName (before : Forest) (ns ne : ℕ) : Type 0 where
    pub closed : (j : ℕ) → ns ≡ j + 1 → quoted_at t j ≡ Ok (ne + 1)
    pub new : L.unique ≡ true → (j : ℕ) → ns ≡ j + 1 → named t (name_of t ns ne) before ≡ false

  -- a value that is read
  pub record Sane (d : Seat) (h : Head) : Type 0 where
    pub closed : h.kind ≡ 5 → quoted_at t h.from ≡ Ok h.to
    pub names : GoodName d.beside h.ns h.ne

  -- values that are read, where so many containers may be opened and the first stands at c
  pub record Kept (depth : ℕ) (c : Seat) (f : Forest) : Type 0 where
    pub shallow : depth_of f ≤ depth
    pub few : c.after + size f ≤ L.values
    pub sane : (d : Seat) (h : Head) → Sits c f d h → Sane d h

  pub kept_join : {depth : ℕ} {c : Seat} (f g : Forest) → Kept depth c f → Kept depth (behind c f) g → Kept depth c (join f g)
  kept_join {depth} {c} f g k l =
      record {
        shallow = omega (arith, depth_join f g, k.shallow, l.shallow);
        few = omega (arith, size_join f g, l.few);
        sane = λ d h i. go d h (in_join f g i);
      }
    where
      go : (d : Seat) (h : Head) → EitherOf c f g d h → Sane d h
      go d h (first i) = k.sane d h i
      go d h (later i) = l.sane d h i

  pub kept_leaf : {depth : ℕ} {c : Seat} {kind ns ne at to : ℕ} → GoodName c.beside ns ne → c.after < L.values → (kind ≡ 5 → quoted_at t at ≡ Ok to)
      → Kept depth c (leaf kind ns ne at to none)
  unfolding depth_of size
  kept_leaf {depth} {c} {kind} {ns} {ne} {at} {to} g l s = record { shallow = omega arith; few = omega arith; sane = go }
    where
      go : (d : Seat) (h : Head) → Sits c (leaf kind ns ne at to none) d h → Sane d h
      go d h (Rattle.text.specs.Seats.leaf_on x10) = elim x10 [ ]
      go d h Sits.leaf_here = record { closed = s; names = g }

  pub kept_node : {depth : ℕ} {c : Seat} {ns ne at to : ℕ} {inner : Forest} (b : Bracket) → GoodName c.beside ns ne → c.after < L.values → Kept depth (under c) inner
      → Kept (suc depth) c (node b ns ne at to inner none)
  unfolding depth_of size
  kept_node {depth} {c} {ns} {ne} {at} {to} {inner} b g l k =
      record { shallow = omega (arith, k.shallow); few = omega (arith, k.few); sane = go }
    where
      go : (d : Seat) (h : Head) → Sits c (node b ns ne at to inner none) d h → Sane d h
      go d h (Rattle.text.specs.Seats.node_on x11) = elim x11 [ ]
      go d h (Sits.into i) = k.sane d h i
      go d h Sits.node_here = record { closed = λ e. absurd (no_string b e); names = g }

  pub kept_none : {depth : ℕ} {c : Seat} → c.after ≤ L.values → Kept depth c none
  unfolding depth_of size
  kept_none {depth} {c} l = record { shallow = omega arith; few = omega arith; sane = λ d h i. in_none i }
