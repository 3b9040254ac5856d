-- The values of an accepted text stand in it as specs/Placed.antt says.
--     placed-text                                       an accepted text
--     spot, no-name-at                                  what that says of the first of some values
--     single-value                                      an accepted value is one value
--     placed-kinds                                      the kinds of values that hold no others are 1 to 5
-- Assumes nothing.
use Rattle.std.specs.Prelude.{Ok}
use Prim.Native.Nat.{ℕ, ◌+◌, ◌-◌, ◌≤◌, ◌<◌}
use mathlib.Core.Path.{◌≡◌, refl}
use mathlib.Core.List.{List}
use native.Mathlib.Omega.{arith}
use lib.ListN.{length}
use Rattle.laws.proofs.Places.{inside}
use Rattle.text.specs.Limits.{Limits}
use Rattle.text.specs.Text.{byte_at}
use Rattle.text.specs.Strings.{string_end}
use Rattle.text.specs.Tokens.{skip, kind_by, token_at}
use Rattle.text.specs.Tree.{Bracket, square, curly, bracket_kind, Forest, none, leaf, node, join}
use Rattle.text.specs.Grammar.{closing}
use Rattle.text.specs.Firsts.{HasFirst, kind_at, name_start, name_end, start_at, end_at, rest_at, ScalarKind, Kinds}
use Rattle.text.specs.Placed.{Unnamed, NameIn, TokenIn, null, falsity, truth, number, string, Spot, Placed, nothing, token, box}
use Rattle.text.specs.Reader.{good, value_at}
use Rattle.text.specs.Whole.{read_of}
use Rattle.text.proofs.Laws.{end_inside}
use Rattle.text.proofs.Induction.{Rules, value_induction, read_accepted}
use Rattle.text.proofs.TokenEnds.{skip_span}
use Rattle.text.proofs.TokenBytes.{kind_first, kind_inside, string_quoted, token_ends, token_in}

-- ---- more room, and one after the other ----

earlier_name : (t : List ℕ) (b : Bracket) (early from ns ne at : ℕ) → early ≤ from → NameIn t b from ns ne at → NameIn t b early ns ne at
earlier_name t square early from ns ne at l n = n
earlier_name t curly early from ns ne at l n = record { quoted = n.quoted; after = omega (arith, n.after); before = n.before }

module _ {t : List ℕ} where
  pub widen : {b : Bracket} {f : Forest} {from to far : ℕ} → to ≤ far → Placed t b f from to → Placed t b f from far
  widen {b} {f} {from} {to} {far} l (nothing h) = let k : from ≤ far = omega arith in nothing k
  widen l (token s k rest) = token s k (widen l rest)
  widen l (box s c within rest) = box s c within (widen l rest)

  earlier_spot : {b : Bracket} {early from kind ns ne at end : ℕ} → early ≤ from → Spot t b from kind ns ne at end → Spot t b early kind ns ne at end
  earlier_spot {b} {early} {from} {kind} {ns} {ne} {at} {end} l s =
      record {
        name = earlier_name t b early from ns ne at l s.name;
        start = omega (arith, s.start);
        some = s.some;
        inside = s.inside;
        begins = s.begins;
      }

  pub earlier : {b : Bracket} {f : Forest} {early from to : ℕ} → early ≤ from → Placed t b f from to → Placed t b f early to
  earlier {b} {f} {early} {from} {to} l (nothing h) = let k : early ≤ to = omega arith in nothing k
  earlier l (token s k rest) = token (earlier_spot l s) k rest
  earlier l (box s c within rest) = box (earlier_spot l s) c within rest

  pub placed_join : {b : Bracket} {f g : Forest} {from middle to : ℕ} → Placed t b f from middle → Placed t b g middle to → Placed t b (join f g) from to
  unfolding join
  placed_join (nothing h) q = earlier h q
  placed_join (token s k rest) q = token s k (placed_join rest q)
  placed_join (box s c within rest) q = box s c within (placed_join rest q)

-- ---- kinds ----

pub token_kind : {t : List ℕ} {kind from to : ℕ} → TokenIn t kind from to → ScalarKind kind
token_kind (null e) = omega arith
token_kind (falsity e) = omega arith
token_kind (truth e) = omega arith
token_kind (number n) = omega arith
token_kind (string q) = omega arith

pub placed_kinds : {t : List ℕ} {b : Bracket} {f : Forest} {from to : ℕ} → Placed t b f from to → Kinds f
placed_kinds (nothing h) = tt
placed_kinds (token s k rest) = (token_kind k, placed_kinds rest)
placed_kinds (box s c within rest) = (placed_kinds within, placed_kinds rest)

-- ---- along reading ----

-- one value at a place, whatever holds it
record Seated (t : List ℕ) (ns ne at : ℕ) (f : Forest) (to : ℕ) : Type 0 where
  some : at < to
  inside : to ≤ length t
  placed : (b : Bracket) (from : ℕ) → NameIn t b from ns ne at → from ≤ at → Placed t b f from to

-- items after a bracket up to a place
record ItemsUpTo (t : List ℕ) (b : Bracket) (edge at : ℕ) (f : Forest) : Type 0 where
  after : edge < at
  within : at ≤ length t
  placed : Placed t b f (edge + 1) at

closing_byte : (t : List ℕ) (b : Bracket) (i : ℕ) → byte_at t i ≡ closing b → i < length t
closing_byte t square i e = inside t i (omega arith)
closing_byte t curly i e = inside t i (omega arith)

bracket_kind_lem : (b : Bracket) → 0 < bracket_kind b
bracket_kind_lem square = omega arith
bracket_kind_lem curly = omega arith

module _ (L : Limits) (t : List ℕ) where
  token_seated : (ns ne at kind to : ℕ) → ScalarKind kind → kind_by (byte_at t at) ≡ kind → token_at t kind at ≡ Ok to
      → Seated t ns ne at (leaf kind ns ne at to none) to
  token_seated ns ne at kind to s k e =
      let span = token_ends t kind at to s.least k e in
      let here : to ≤ to = omega arith in
      record {
        some = omega (arith, span.later);
        inside = span.inside;
        placed = λ b from name le.
            let spot : Spot t b from kind ns ne at to = record { name = name; start = le; some = omega (arith, span.later); inside = span.inside; begins = kind_first (byte_at t at) kind s.least k } in
            token spot (token_in t kind at to s k e) (nothing here);
      }

  box_seated : (b : Bracket) (ns ne edge at : ℕ) (f : Forest) → kind_by (byte_at t edge) ≡ bracket_kind b → ItemsUpTo t b edge at f → byte_at t at ≡ closing b
      → Seated t ns ne edge (node b ns ne edge (at + 1) f none) (at + 1)
  box_seated b ns ne edge at f k r e =
      let l = closing_byte t b at e in
      let place : at + 1 - 1 ≡ at = omega arith in
      let here : at + 1 ≤ at + 1 = omega arith in
      let last : byte_at t (at + 1 - 1) ≡ closing b = rw place e in
      let within : Placed t b f (edge + 1) (at + 1 - 1) = rw place r.placed in
      record {
        some = omega (arith, r.after);
        inside = omega arith;
        placed = λ c from name le.
            let spot : Spot t c from (bracket_kind b) ns ne edge (at + 1) = record { name = name; start = le; some = omega (arith, r.after); inside = omega arith; begins = kind_first (byte_at t edge) (bracket_kind b) (bracket_kind_lem b) k } in
            box spot last within (nothing here);
      }

  row_start : (b : Bracket) (edge : ℕ) → kind_by (byte_at t edge) ≡ bracket_kind b → ItemsUpTo t b edge (skip t (edge + 1)) none
  row_start b edge k =
      let l = kind_inside t edge (bracket_kind b) (bracket_kind_lem b) k in
      let span = skip_span t (edge + 1) (omega arith) in
      record { after = omega (arith, span.later); within = span.inside; placed = nothing span.later }

  row_comma : (b : Bracket) (edge at : ℕ) (f : Forest) → ItemsUpTo t b edge at f → byte_at t at ≡ 44 → ItemsUpTo t b edge (skip t (at + 1)) f
  row_comma b edge at f r e =
      let l = inside t at (omega arith) in
      let span = skip_span t (at + 1) (omega arith) in
      let far : at ≤ skip t (at + 1) = omega (arith, span.later) in
      record { after = omega (arith, r.after); within = span.inside; placed = widen far r.placed }

  row_item : (b : Bracket) (edge at vat ns ne to : ℕ) (done f : Forest) → ItemsUpTo t b edge at done → NameIn t b at ns ne vat → at ≤ vat → Seated t ns ne vat f to
      → ItemsUpTo t b edge (skip t to) (join done f)
  row_item b edge at vat ns ne to done f r name le v =
      let span = skip_span t to v.inside in
      record {
        after = omega (arith, span.later, r.after, v.some);
        within = span.inside;
        placed = widen span.later (placed_join r.placed (v.placed b at name le));
      }

  row_member : (edge at end to : ℕ) (done f : Forest) → ItemsUpTo t curly edge at done → byte_at t at ≡ 34 → string_end t (at + 1) ≡ Ok end
      → byte_at t (skip t end) ≡ 58 → Seated t (at + 1) (end - 1) (skip t (skip t end + 1)) f to → ItemsUpTo t curly edge (skip t to) (join done f)
  row_member edge at end to done f r q e c v =
      let ends = end_inside t (at + 1) end e in
      let span = skip_span t end ends.within in
      let l = inside t (skip t end) (omega arith) in
      let next = skip_span t (skip t end + 1) (omega arith) in
      let before : end ≤ skip t (skip t end + 1) = omega (arith, span.later, next.later) in
      row_item curly edge at (skip t (skip t end + 1)) (at + 1) (end - 1) to done f r
      (record { quoted = string_quoted t at end q e; after = omega arith; before = omega (arith, ends.after) })
      (omega (arith, ends.after))
      v

  placed_rules : Rules L t (λ depth ns ne at f to. Seated t ns ne at f to) (λ b depth edge at f. ItemsUpTo t b edge at f)
  placed_rules =
      record {
        token = λ depth ns ne at kind to s k e. token_seated ns ne at kind to s k e;
        box = λ b depth ns ne edge at f k r e. box_seated b ns ne edge at f k r e;
        start = λ b depth edge k. row_start b edge k;
        comma = λ b depth edge at f r e. row_comma b edge at f r e;
        element = λ depth edge at to done f r v. row_item square edge at at 0 0 to done f r (record { start = refl; end = refl }) (omega arith) v;
        member = λ depth edge at end to done f r q e fresh c v. row_member edge at end to done f r q e c v;
      }

  -- an accepted text: its value stands in it, as an element does
  pub placed_text : (f : Forest) (to : ℕ) → read_of L t ≡ good f to → Placed t square f 0 (length t)
  placed_text f to e =
      let a = read_accepted L t f to e in
      let v = value_induction L t _ _ placed_rules L.depth 0 0 (skip t 0) 0 f a.end a.value in
      widen v.inside (v.placed square 0 (record { start = refl; end = refl }) (omega arith))

-- ---- one value ----

-- with the places of its name and its own
pub record Single (ns ne at to : ℕ) (f : Forest) : Type 0 where
  pub some : HasFirst f
  pub alone : rest_at f ≡ none
  pub name_starts : name_start f ≡ ns
  pub name_ends : name_end f ≡ ne
  pub start : start_at f ≡ at
  pub finish : end_at f ≡ to

single_rules : (L : Limits) (t : List ℕ) → Rules L t (λ depth ns ne at f to. Single ns ne at to f) (λ b depth edge at f. Prim.Unit {0})
single_rules L t =
    record {
      token = λ depth ns ne at kind to s k e. record { some = tt; alone = refl; name_starts = refl; name_ends = refl; start = refl; finish = refl };
      box = λ b depth ns ne edge at f k r e. record { some = tt; alone = refl; name_starts = refl; name_ends = refl; start = refl; finish = refl };
      start = λ b depth edge k. tt;
      comma = λ b depth edge at f r e. tt;
      element = λ depth edge at to done f r v. tt;
      member = λ depth edge at end to done f r q e fresh c v. tt;
    }

pub single_value : (L : Limits) (t : List ℕ) (depth ns ne at n : ℕ) (f : Forest) (to : ℕ) → value_at L t depth ns ne at n ≡ good f to → Single ns ne at to f
single_value L t depth ns ne at n f to e = value_induction L t _ _ (single_rules L t) depth ns ne at n f to e

-- ---- what that says of the first of some values ----

module _ {t : List ℕ} {b : Bracket} {from to : ℕ} where
  -- its name, its start and end, and its first byte
  pub spot : {f : Forest} → Placed t b f from to → HasFirst f → Spot t b from (kind_at f) (name_start f) (name_end f) (start_at f) (end_at f)
  spot (nothing h) s = absurd s
  spot (token p k rest) s = p
  spot (box p c within rest) s = p

-- the root and an element have the name 0, 0
pub no_name_at : {t : List ℕ} {f : Forest} {from to : ℕ} → Placed t square f from to → HasFirst f → Unnamed (name_start f) (name_end f)
no_name_at p s = (spot p s).name
