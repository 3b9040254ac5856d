-- The last two words of the rows: which value directly holds which, and which follows which (specs/Kin.antt). Of a tree with one root, whose rows stand in
-- a table with their links (proofs/Standing.antt):
--     parent_row, sibling-row      a value's row says the row of its parent and that of its next sibling, and none but these
--     ascent                    by parents the root is reached from it, in as many steps as containers are around it, which the depth bounds
--     children                  the siblings from its first child on are just its children, each once and in their order
--     agrees                    the two words agree with the number of values below
--     kinship                   all of this, as it is promised
-- The way there:
--     Links       the links of values by the tree
--     Parts       each value is first of values that are the last ones in their container
--     Beside      the rows of values one beside the other
-- Assumes nothing.
use Prim.Native.Nat.{ℕ, ◌+◌, ◌≤◌, ◌<◌}
use mathlib.Core.Path.{◌≡◌, refl, sym, ap, subst, ◌∙◌}
use mathlib.Core.Logic.{◌↔◌, ◌⊎◌, inl, inr}
use mathlib.Core.List.{List}
use native.Mathlib.Omega.{arith}
use Rattle.text.specs.Words.{below_in, parent_in, sibling_in}
use Rattle.text.specs.Tree.{Forest, none, leaf, node, size, first_row}
use Rattle.text.specs.Grammar.{depth_of}
use Rattle.text.specs.Seats.{Head, Seat, top, under, behind, Sits}
use Rattle.text.specs.Standing.{Stands}
use Rattle.text.specs.Firsts.{HasFirst, inside_at, below_at, rest_at}
use Rattle.text.specs.Kin.{Among, Holds, Follows, ParentRow, SiblingRow, Ascent, Children, Agrees, Kinship}
use Rattle.text.proofs.Standing.{LinksAt, LinkedAt, first_of, first_row_lem, inside, some_at, first_and_rest}
use Rattle.text.proofs.Grammar.Trees.{in_few}
use Rattle.text.proofs.Rows.{row_filled}
use Rattle.text.proofs.Kin.Links.{Linked, behind_row, first_links, inside_linked, rest_linked, first_some, Ahead, ahead, among_first, first_among, holds_parent, follows_next}
use Rattle.text.proofs.Kin.Parts.{holds_here, Place, place_low, place_more, place_root, place_ascent, Spot, spot}
use Rattle.text.proofs.Kin.Beside.{rows_beside, among_row, row_among, rows_climb, rows_line}
pub mod Links
pub mod Parts
pub mod Beside

follow_first : {c : Seat} (f : Forest) → HasFirst (rest_at f) → Follows c f c (behind c (first_of f))
follow_first none r = absurd r
follow_first (leaf kind ns ne from to rest) r = Follows.leaf_here refl (first_among rest r)
follow_first (node b ns ne from to inner rest) r = Follows.node_here refl (first_among rest r)

held_here : {c e : Seat} (f : Forest) → Among (under c) (inside_at f) e → Holds c f c e
held_here none a = absurd (among_first a)
held_here (leaf kind ns ne from to rest) a = absurd (among_first a)
held_here (node b ns ne from to inner rest) a = Holds.here a

-- ---- the words of a row agree ----

module _ {t : List ℕ} {p : ℕ} (c : Seat) (f : Forest) (s : HasFirst f) (linked : Linked t p c.after 0 f) (stands : Stands t c.after f) where
  below : below_in t c.after ≡ below_at f
  below = (first_row_lem f s stands).below

  first_parent : 0 < below_in t c.after → parent_in t (c.after + 1) ≡ c.after
  first_parent o =
      let some = some_at (inside_at f) (inside f s stands) (omega (arith, below)) in
      (first_links (under c) (inside_at f) some (inside_linked f s linked)).parent

  next_there : Place t p c f → Ahead (rest_at f) → 0 < sibling_in t c.after
      → (sibling_in t c.after ≡ c.after + 1 + below_in t c.after) × (parent_in t (sibling_in t c.after) ≡ parent_in t c.after)
      × (sibling_in t c.after ≤ parent_in t c.after + below_in t (parent_in t c.after))
  next_there i (Ahead.nothing n q) o = absurd (omega (arith, (first_links c f s linked).next, q (behind c (first_of f)).after 0))
  next_there i (Ahead.some r) o =
      let d = behind c (first_of f) in
      let own = first_links c f s linked in
      let next : sibling_in t c.after ≡ d.after = own.next ∙ first_some d.after 0 (rest_at f) r in
      let more = first_and_rest (rest_at f) r in (
        omega (arith, behind_row c f s, below),
        rw next ((first_links d (rest_at f) r (rest_linked c f s linked)).parent ∙ sym own.parent),
        rw own.parent (omega (arith, behind_row c f s, first_and_rest f s, (place_more r i).ends)),
      )

  root_there : Place t p c f → c.after ≡ 0 → (parent_in t c.after ≡ 0) × (sibling_in t c.after ≡ 0)
  root_there i z =
      let own = first_links c f s linked in
      let (q, one) = place_root s z i in
      (own.parent ∙ q, own.next ∙ ap (first_row (behind c (first_of f)).after 0) one)

  last_there : Place t p c f → Ahead (rest_at f) → 0 < c.after → sibling_in t c.after ≡ 0
      → c.after + below_in t c.after ≡ parent_in t c.after + below_in t (parent_in t c.after)
  last_there i (Ahead.nothing n q) o z =
      rw (first_links c f s linked).parent (omega (arith, (place_low s o i).ends, below, first_and_rest f s))
  last_there i (Ahead.some r) o z =
      let d = behind c (first_of f) in
      absurd (omega (arith, (first_links c f s linked).next, first_some d.after 0 (rest_at f) r, behind_row c f s))

  agree : Place t p c f → Agrees t c.after
  agree i =
      record {
        below_parent = λ o. let l = place_low s o i in
            rw (first_links c f s linked).parent (l.before, omega (arith, l.ends, first_and_rest f s));
        root = root_there i;
        first_child = first_parent;
        next_behind = next_there i (ahead (rest_at f));
        last_ends = last_there i (ahead (rest_at f));
      }

-- ---- the theorems ----

module _ (table : List ℕ) (f : Forest) (one : rest_at f ≡ none) (linked : LinkedAt table 0 0 0 f) (stands : Stands table 0 f) where
  links : Linked table 0 0 0 f
  links = record { rows = linked }

  there : {d : Seat} {h : Head} → Sits top f d h → Spot table f d h
  there i = spot one links stands i

  own : {d : Seat} {h : Head} (i : Sits top f d h) → LinksAt table d.after (there i).row (first_row (behind d (first_of (there i).values)).after 0 (rest_at (there i).values))
  own {d} i = let s = there i in first_links d s.values s.first s.part.linked

  parent_is : {d : Seat} {h : Head} → Sits top f d h → ParentRow f d (parent_in table d.after)
  parent_is {d} i =
      let s = there i in
      rw (own i).parent (s.part.among d (first_among s.values s.first))

  is_parent : {d : Seat} {h : Head} {p : ℕ} → Sits top f d h → ParentRow f d p → parent_in table d.after ≡ p
  is_parent i ParentRow.root =
      let some = some_at {end = size f} f (record { stands = stands; ends = omega arith }) (omega (arith, in_few i)) in
      (first_links top f some links).parent
  is_parent i (ParentRow.held j) = holds_parent links j

  -- theorem: a value's row says its parent's row
  parent_row : (d : Seat) (h : Head) → Sits top f d h → (p : ℕ) → (parent_in table d.after ≡ p) ↔ ParentRow f d p
  parent_row d h i p = (λ q. subst (ParentRow f d) q (parent_is i), λ r. is_parent i r)

  -- a value follows it, or its row says that none does
  abbrev Onward : Seat → Type 0
  Onward d = ((e : Seat) × Follows top f d e) ⊎ (sibling_in table d.after ≡ 0)

  onward : {d : Seat} {h : Head} → Sits top f d h → Onward d
  onward {d} i = go (ahead (rest_at (there i).values))
    where
      e : Seat
      e = behind d (first_of (there i).values)

      go : Ahead (rest_at (there i).values) → Onward d
      go (Ahead.nothing n q) = inr ((own i).next ∙ q e.after 0)
      go (Ahead.some r) = inl (e, (there i).part.follows d e (follow_first (there i).values r))

  next_is : {d : Seat} → Onward d → SiblingRow f d (sibling_in table d.after)
  next_is (inl (e, j)) = rw (follows_next links j).0 (SiblingRow.next j)
  next_is {d} (inr q) =
      let not : (e : Seat) → Follows top f d e → ⊥ = λ e j. omega (arith, (follows_next links j).0, (follows_next links j).1) in
      rw q (SiblingRow.last not)

  is_next : {d : Seat} {n : ℕ} → Onward d → SiblingRow f d n → sibling_in table d.after ≡ n
  is_next a (SiblingRow.next j) = (follows_next links j).0
  is_next (inl (e, j)) (SiblingRow.last not) = absurd (not e j)
  is_next (inr q) (SiblingRow.last not) = q

  -- theorem: and its next sibling's
  sibling_row : (d : Seat) (h : Head) → Sits top f d h → (n : ℕ) → (sibling_in table d.after ≡ n) ↔ SiblingRow f d n
  sibling_row d h i n = (λ q. subst (SiblingRow f d) q (next_is (onward i)), λ r. is_next (onward i) r)

  -- theorem: from row to parent the root is reached in as many steps as containers are around the value
  ascent : (d : Seat) (h : Head) → Sits top f d h → Ascent table d.after d.inside × (d.inside ≤ depth_of f)
  ascent d h i = let s = there i in (place_ascent s.first (own i).parent s.part.place, omega (arith, s.part.deep))

  -- theorem: from sibling to sibling, from the first child on, just the children are passed
  children : (d : Seat) (h : Head) → Sits top f d h → 0 < h.below → Children table f d
  children d h i o =
      let s = there i in
      let g = s.values in
      let below : below_at g ≡ h.below = ap (λ (x : Head). x.below) s.head in
      let some = some_at (inside_at g) (inside g s.first s.part.stands) (omega arith) in
      record {
        rows = rows_beside (under d) (inside_at g);
        line = rows_line (under d) (inside_at g) some (inside_linked g s.first s.part.linked);
        ordered = rows_climb (under d) (inside_at g);
        just = λ row. (
          λ m. let (e, a, q) = row_among (under d) (inside_at g) m in (e, s.part.holds d e (held_here g a), q),
          λ (e, j, q). rw (← q) (among_row (holds_here refl (s.part.only d e (omega arith) (omega (arith, first_and_rest g s.first)) j))),
        );
      }

  -- theorem: the two words of a row agree with the number of values below
  agrees : (row : ℕ) → row < size f → Agrees table row
  agrees row l =
      let r = row_filled f row l in
      let s = there r.there in
      subst (Agrees table) r.row (agree r.seat s.values s.first s.part.linked s.part.stands s.part.place)

  pub kinship : Kinship table f
  kinship = record { parents = parent_row; siblings = sibling_row; ascents = ascent; children = children; agrees = agrees }
