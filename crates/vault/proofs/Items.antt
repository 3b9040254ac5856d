-- Laws of values at rows that are laid as fields, one after the other:
--     packed-scalar, packed-inside        a value that holds no others; one that does, by its kind
--     Passing                             what the walk along the rows inside a value keeps, whatever stands there
--     Filling, fill_start, fill-turn, fill_end      of the items inside a value some are laid, and the others stand from a row on
-- Assumes nothing.
use Prim.Native.Nat.{ℕ, ◌+◌, ◌≤◌, ◌<◌}
use mathlib.Core.Path.{◌≡◌, refl, sym, ap, ◌∙◌}
use mathlib.Core.List.{List, [], ◌++◌, append_assoc, append-nil}
use native.Mathlib.Omega.{arith}
use lib.ListN.{length}
use Rattle.laws.specs.Lists.{part_of}
use Rattle.text.specs.Strings.{name_of}
use Rattle.text.specs.Tree.{square, curly, Forest, none, leaf, node}
use Rattle.text.specs.Firsts.{HasFirst, kind_at, name_start, name_end, start_at, end_at, inside_at, rest_at, Kinds}
use Rattle.text.specs.Standing.{StandsTo}
use Rattle.text.specs.Doc.{members_of, doc_of}
use Rattle.text.proofs.Promise.{first_row_lem, after, some_at, none_at, doc_scalar, members_first, members_none}
use Rattle.json_reader.specs.Rows.{below_in}
use Rattle.json_reader.specs.Lookup.{last_row, KnownAt}
use Rattle.json_reader.proofs.Seeking.{members_stand, inside_kinds, rest_kinds}
use Rattle.packing.specs.Packed.{field_of, content_in, name_field, packed, packed_items}
use Rattle.vault.specs.Laid.{Laid, bracket_of, LaidName, LaidValue}
use Rattle.vault.proofs.Laying.{laid_none, laid_then}

-- the fields of some values inside a container of the kind
abbrev pub items_from : (t : List ℕ) → (kind : ℕ) → Forest → List ℕ
items_from t kind vs = packed_items (members_of t vs) (bracket_of kind)

module _ (t : List ℕ) where
  pub packed_scalar : (g : Forest) → HasFirst g → kind_at g < 6
      → packed (doc_of t g) ≡ field_of (kind_at g) (content_in (kind_at g) (part_of t (start_at g) (end_at g)))
  packed_scalar g s h = rw (doc_scalar t g s h)

  pub packed_inside : (g : Forest) → HasFirst g → Kinds g → (kind : ℕ) → kind ≡ kind_at g → 6 ≤ kind
      → packed (doc_of t g) ≡ field_of kind (items_from t kind (inside_at g))
  unfolding doc_of
  packed_inside none s k kind is h = absurd s
  packed_inside (leaf kind' ns ne from to rest) s k kind is h = absurd (omega (arith, k.0.most))
  packed_inside (node square ns ne from to inside rest) s k kind is h = rw is
  packed_inside (node curly ns ne from to inside rest) s k kind is h = rw is

-- such a kind is a byte
pub kind_small : (g : Forest) → HasFirst g → Kinds g → kind_at g < 256
kind_small none s k = absurd s
kind_small (leaf kind ns ne from to rest) s k = omega (arith, k.0.most)
kind_small (node square ns ne from to inside rest) s k = omega arith
kind_small (node curly ns ne from to inside rest) s k = omega arith

-- It is past the value's row, its end is a row, and the output is as long as before.
pub record Passing (row end m : ℕ) (old new : List ℕ) : Type 0 where
  pub later : row < m
  pub near : end ≤ last_row
  pub long : length new ≡ length old

-- Of the bytes `total` those of some items are laid from `at` on, up to the place `to`; the others stand from row m up to `end`.
pub record Filling (t table : List ℕ) (kind end : ℕ) (old : List ℕ) (at : ℕ) (total new : List ℕ) (to m : ℕ) : Type 0 where
  pub values : Forest
  pub kinds : Kinds values
  pub standing : StandsTo table m end values
  pub done : List ℕ
  pub laid : Laid old at done new to
  pub all : total ≡ done ++ items_from t kind values

module _ (t : List ℕ) {table : List ℕ} (kind : ℕ) {end : ℕ} {old : List ℕ} {at : ℕ} where
  pub fill_start : {row : ℕ} {g : Forest} → KnownAt table row g → end ≡ row + 1 + below_in table row
      → Filling t table kind end old at (items_from t kind (inside_at g)) old at (row + 1)
  fill_start {row} {g} v e =
      record {
        values = inside_at g;
        kinds = inside_kinds g v.kinds;
        standing = members_stand v.some v.stands e;
        done = [];
        laid = laid_none at;
        all = refl;
      }

  module _ {total new : List ℕ} {to m : ℕ} (w : Filling t table kind end old at total new to m) where
    -- one item more: its name, if it has one, and its value
    pub fill_turn : m < end → {one two : List ℕ} {p q : ℕ} → LaidName t table m kind new to one p → LaidValue t table m one p two q
        → (next : ℕ) → next ≡ m + 1 + below_in table m → Filling t table kind end old at total two q next
    fill_turn h a b next e =
        let g = w.values in
        let s = some_at g w.standing h in
        let row = first_row_lem g s w.standing.stands in
        let name = name_field (bracket_of kind) (name_of t (name_start g) (name_end g)) in
        let value = packed (doc_of t g) in
        let rest = items_from t kind (rest_at g) in
        let named = rw (row.name_starts, row.name_ends) at a in
        let more : items_from t kind g ≡ name ++ (value ++ rest) = rw (members_first t g s) in
        record {
          values = rest_at g;
          kinds = rest_kinds g w.kinds;
          standing = rw (e, row.below) (after g s w.standing);
          done = w.done ++ (name ++ value);
          laid =
              laid_then w.done (name ++ value) w.laid
              (laid_then name value named (b g record { some = s; kinds = w.kinds; stands = w.standing.stands }));
          all =
              w.all
              ∙ ap (λ (l : List ℕ). w.done ++ l) (more ∙ sym (append_assoc name value rest))
              ∙ sym (append_assoc w.done (name ++ value) rest);
        }

    -- all are laid
    pub fill_end : end ≤ m → Laid old at total new to
    fill_end h =
        let over : items_from t kind w.values ≡ [] = rw (none_at w.values w.standing h, members_none t) in
        rw (w.all ∙ ap (λ (l : List ℕ). w.done ++ l) over ∙ append-nil w.done) w.laid
