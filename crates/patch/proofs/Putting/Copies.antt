-- Laws of a value that is written as it is, by its kind:
--     copied-scalar, copied-inside     a token; or a bracket and what is inside
--     inside-none, inside-more         what is inside: the closing bracket, or what stands before a value, the value, and the rest
--     label_is                         a name as written, by the row
--     copy-turn, copy-end              a walk that copies what is inside
-- Assumes nothing.
use Prim.Native.Nat.{ℕ, ◌+◌, ◌≤◌, ◌<◌}
use mathlib.Core.Path.{◌≡◌, refl, sym, ◌∙◌}
use mathlib.Core.Bool.{Bool, true, false, cond}
use mathlib.Core.List.{List, [], ◌∷◌, ◌++◌, append_assoc, append-nil}
use native.Mathlib.Decide.{ℕ_discrete}
use native.Mathlib.Omega.{arith}
use lib.Dec.{eqb}
use borrow.Author.Tests.{ne_eqb}
use Rattle.laws.specs.Lists.{part_of}
use Rattle.text.specs.Tree.{square, curly, Forest, none, leaf, node}
use Rattle.text.specs.Firsts.{HasFirst, kind_at, name_start, name_end, start_at, end_at, inside_at, rest_at, Kinds}
use Rattle.text.specs.Doc.{members_of, label_at, doc_of}
use Rattle.text.specs.Writing.{comma, written, written_entries, written_members}
use Rattle.text.proofs.Promise.{doc_scalar, doc_array, doc_object, members_first, members_none}
use Rattle.json_reader.specs.Rows.{below_in}
use Rattle.output.specs.Written.{Wrote}
use Rattle.json_reader.specs.Lookup.{KnownAt}
use Rattle.patch.specs.Copied.{open_byte, close_byte, head_of, label_in, Copied}
use Rattle.output.proofs.Bytes.{left_on, left_as, left_last}
use Rattle.patch.proofs.Putting.Walks.{value_row, Walk, walk_here, walk_on, walk_end}

-- the values inside it from here on, and its closing bracket
unfoldable pub inside_of : (t : List ℕ) → (kind : ℕ) → Forest → (first : Bool) → List ℕ
inside_of t kind vs first =
    let members = written_members (members_of t vs) first in
    let entries = written_entries (members_of t vs) first in
    cond (eqb kind 7) members entries

pub label_is : {table : List ℕ} {row : ℕ} {g : Forest} (t : List ℕ) → KnownAt table row g → label_in t table row ≡ label_at t (name_start g) (name_end g)
label_is t v = rw ((value_row v).name_starts, (value_row v).name_ends)

-- a container that is no object is an array
only_array : (g : Forest) → HasFirst g → Kinds g → 6 ≤ kind_at g → (kind_at g ≡ 7 → ⊥) → kind_at g ≡ 6
only_array none s k h not = absurd s
only_array (leaf kind ns ne from to rest) s k h not = absurd (omega (arith, k.0.most))
only_array (node square ns ne from to inside rest) s k h not = refl
only_array (node curly ns ne from to inside rest) s k h not = absurd (not refl)

module _ (t : List ℕ) where
  pub copied_scalar : (g : Forest) → HasFirst g → kind_at g < 6 → written (doc_of t g) ≡ part_of t (start_at g) (end_at g)
  copied_scalar g s h = rw (doc_scalar t g s h)

  -- its kind is 6 or 7
  pub copied_inside : (g : Forest) → HasFirst g → Kinds g → (kind : ℕ) → kind ≡ kind_at g → 6 ≤ kind
      → written (doc_of t g) ≡ open_byte kind ∷ inside_of t kind (inside_at g) true
  unfolding inside_of
  copied_inside g s k kind is h =
      elim (ℕ_discrete kind 7) [
        | yes e ↦ rw (e, doc_object t g s k (sym is ∙ e))
        | no ne ↦ rw (ne_eqb kind 7 ne, doc_array t g s k (only_array g s k (rw is at h) (λ e. ne (is ∙ e))))
      ]

  pub inside_none : (kind : ℕ) (first : Bool) → inside_of t kind none first ≡ close_byte kind ∷ []
  unfolding inside_of
  inside_none kind first = rw (members_none t) (go (eqb kind 7))
    where
      go : (b : Bool) → ◌≡◌ {A = List ℕ} (cond b (125 ∷ []) (93 ∷ [])) (cond b 125 93 ∷ [])
      go true = refl
      go false = refl

  inside_more : (kind : ℕ) (g : Forest) → HasFirst g → (first : Bool)
      → inside_of t kind g first ≡ head_of kind first (label_at t (name_start g) (name_end g)) ++ (written (doc_of t g) ++ inside_of t kind (rest_at g) false)
  unfolding inside_of
  inside_more kind g s first = rw (members_first t g s) (go (eqb kind 7))
    where
      label : List ℕ
      label = label_at t (name_start g) (name_end g)

      value : List ℕ
      value = written (doc_of t g)

      members : List ℕ
      members = written_members (members_of t (rest_at g)) false

      entries : List ℕ
      entries = written_entries (members_of t (rest_at g)) false

      go : (b : Bool) → cond b (comma first ++ label ++ (58 ∷ value) ++ members) (comma first ++ value ++ entries)
          ≡ (comma first ++ cond b (label ++ (58 ∷ [])) []) ++ (value ++ cond b members entries)
      go true = simp append_assoc
      go false = simp (append_assoc, append-nil)

-- ---- a walk that copies ----

-- one value more is written
pub copy_turn : (t : List ℕ) {table : List ℕ} (kind : ℕ) {end : ℕ} {old : List ℕ} {at : ℕ} {total new : List ℕ} {to : ℕ} {first : Bool} {m : ℕ}
    → Walk table end (inside_of t kind) old at total new to first m → m < end
    → {one two : List ℕ} {p q : ℕ} → Wrote new to (head_of kind first (label_in t table m)) one p → Copied t table m one p two q
    → (next : ℕ) → next ≡ m + 1 + below_in table m → Walk table end (inside_of t kind) old at total two q false next
copy_turn t {table} kind {first = first} w h a b next e =
    let v = walk_here w h in
    let g = w.values in
    let head = head_of kind first (label_at t (name_start g) (name_end g)) in
    let rest = inside_of t kind (rest_at g) false in
    let l = left_on head (written (doc_of t g) ++ rest) (left_as (inside_more t kind g v.some first) w.left) (rw (label_is t v) at a) in
    walk_on w h next e (left_on (written (doc_of t g)) rest l (b g v))

-- all are written
pub copy_end : (t : List ℕ) {table : List ℕ} (kind : ℕ) {end : ℕ} {old : List ℕ} {at : ℕ} {total new : List ℕ} {to : ℕ} {first : Bool} {m : ℕ}
    → Walk table end (inside_of t kind) old at total new to first m → end ≤ m → {last : List ℕ} {r : ℕ} → Wrote new to (close_byte kind ∷ []) last r
    → Wrote old at total last r
copy_end t kind {first = first} w h a = left_last (close_byte kind ∷ []) (left_as (inside_none t kind first) (walk_end w h)) a
