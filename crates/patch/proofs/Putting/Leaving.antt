-- Laws of the row that is left out:
--     out_first, out-rest     it is the first of some values, or none of its rows; and the same of those after it
--     out-inside              inside a member nothing is left out
--     leaves-found            the row of the member that is to be left out, where names are distinct
-- Assumes nothing.
use Prim.Native.Nat.{ℕ, ◌+◌, ◌≤◌, ◌<◌}
use mathlib.Core.Path.{◌≡◌, refl, sym, ◌∙◌}
use mathlib.Core.Bool.{Bool, true, false, cond}
use mathlib.Core.List.{List}
use mathlib.Core.Option.{none}
use native.Mathlib.Nat.{add-zero}
use native.Mathlib.Omega.{arith}
use borrow.Author.Tests.{eq-eqb, ne_eqb}
use Rattle.laws.specs.Order.{same}
use Rattle.laws.proofs.Orders.{same_eq}
use Rattle.text.specs.Text.{bytes}
use Rattle.text.specs.Tree.{Forest, leaf, node, size}
use Rattle.text.specs.Tree as T
use Rattle.text.specs.Firsts.{HasFirst, name_start, name_end, inside_at, below_at, rest_at}
use Rattle.text.specs.Strings.{name_of}
use Rattle.text.specs.Doc.{Name, seek, members_of}
use Rattle.text.specs.Distinct.{DistinctMembers}
use Rattle.json_reader.specs.Lookup.{from_name}
use Rattle.json_reader.proofs.Seeking.{seek_here, seek_on}
use Rattle.patch.specs.Patched.{is_out, OutAt, LeavesOut}

module _ (t : List ℕ) (leave : ℕ) (root : Bool) (m : ℕ) where
  pub out_first : (g : Forest) → HasFirst g → LeavesOut t leave root m g
      → OutAt (is_out root (name_of t (name_start g) (name_end g))) leave m (below_at g)
  unfolding size
  out_first T.none s l = absurd s
  out_first (leaf kind ns ne from to rest) s l = l.0
  out_first (node b ns ne from to inside rest) s l = l.0

  pub out_rest : (g : Forest) → HasFirst g → LeavesOut t leave root m g → LeavesOut t leave root (m + 1 + below_at g) (rest_at g)
  unfolding size
  out_rest T.none s l = absurd s
  out_rest (leaf kind ns ne from to rest) s l = rw add-zero l.1
  out_rest (node b ns ne from to inside rest) s l = l.1

-- ---- below the root

-- the row is none of theirs
apart : (t : List ℕ) (leave : ℕ) (f : Forest) (m : ℕ) → (m ≤ leave → m + size f ≤ leave) → LeavesOut t leave false m f
unfolding size
apart t leave T.none m h = tt
apart t leave (leaf kind ns ne from to rest) m h = (
  record { is = sym (ne_eqb m leave (λ e. omega (arith, h (omega arith)))); past = λ lt. omega arith },
  apart t leave rest (m + 1) (λ le. omega (arith, h (omega arith))),
)
apart t leave (node b ns ne from to inside rest) m h = (
  record { is = sym (ne_eqb m leave (λ e. omega (arith, h (omega arith)))); past = λ lt. omega (arith, h (omega arith)) },
  apart t leave rest (m + 1 + size inside) (λ le. omega (arith, h (omega arith))),
)

pub out_inside : (t : List ℕ) {leave m : ℕ} {out : Bool} (g : Forest) → OutAt out leave m (below_at g) → LeavesOut t leave false (m + 1) (inside_at g)
out_inside t {leave} {m} g o = apart t leave (inside_at g) (m + 1) (λ le. omega (arith, o.past (omega arith)))

-- ---- at the root

-- the row stands before a member that is not left out
out_before : {out : Bool} {leave at below : ℕ} → out ≡ false → leave < at → OutAt out leave at below
out_before {leave = leave} {at} off h = record { is = off ∙ sym (ne_eqb at leave (λ q. omega arith)); past = λ lt. absurd (omega arith) }

-- no member has the name: neither the first nor those after it
module _ (t : List ℕ) (n : Name) (g : Forest) (s : HasFirst g) where
  not_named : seek n (members_of t g) ≡ none → (same (name_of t (name_start g) (name_end g)) n ≡ false) × (seek n (members_of t (rest_at g)) ≡ none)
  not_named e = go (same (name_of t (name_start g) (name_end g)) n) refl
    where
      go : (b : Bool) → same (name_of t (name_start g) (name_end g)) n ≡ b
          → (same (name_of t (name_start g) (name_end g)) n ≡ false) × (seek n (members_of t (rest_at g)) ≡ none)
      go true q = let f = sym (seek_here t n g s q) ∙ e in let z : ◌≡◌ {A = ℕ} 0 1 = cc in absurd (omega arith)
      go false q = (q, sym (seek_on t n g s q) ∙ e)

-- and the row stands before them all
none_leaves : (t : List ℕ) {leave : ℕ} (at : ℕ) (f : Forest) → seek (bytes "localizations") (members_of t f) ≡ none → leave < at
    → LeavesOut t leave true at f
none_leaves t at T.none e h = tt
none_leaves t {leave} at (leaf kind ns ne from to rest) e h =
    let (off, more) = not_named t (bytes "localizations") (leaf kind ns ne from to rest) tt e in
    (out_before off h, none_leaves t (at + 1) rest more (omega arith))
none_leaves t {leave} at (node b ns ne from to inside rest) e h =
    let (off, more) = not_named t (bytes "localizations") (node b ns ne from to inside rest) tt e in
    (out_before off h, none_leaves t (at + 1 + size inside) rest more (omega arith))

-- those from the first of a name on are no more than all
from_size : (t : List ℕ) (n : Name) (f : Forest) → size (from_name t n f) ≤ size f
unfolding from_name size
from_size t n T.none = omega arith
from_size t n (leaf kind ns ne from to rest) = go (from_name t n rest) (same (name_of t ns ne) n) (from_size t n rest)
  where
    go : (later : Forest) (b : Bool) → size later ≤ size rest → size (cond b (leaf kind ns ne from to rest) later) ≤ size (leaf kind ns ne from to rest)
    go later true h = omega arith
    go later false h = omega arith
from_size t n (node b ns ne from to inside rest) = go (from_name t n rest) (same (name_of t ns ne) n) (from_size t n rest)
  where
    go : (later : Forest) (c : Bool) → size later ≤ size rest
        → size (cond c (node b ns ne from to inside rest) later) ≤ size (node b ns ne from to inside rest)
    go later true h = omega arith
    go later false h = omega arith

-- the first value is the one, and no other is; or it is another
leaves_step : {at m : ℕ} (below : ℕ) (key n : Name) (f later rest : Forest) {Rest : Type 0} (b : Bool) → same key n ≡ b → size f ≡ 1 + below + size rest
    → size later ≤ size rest → m + size (cond b f later) ≡ at + size f → HasFirst (cond b f later) → (key ≡ n → m ≡ at → Rest)
    → (HasFirst later → m + size later ≡ at + 1 + below + size rest → Rest) → OutAt (same key n) m at below × Rest
leaves_step {at} {m} below key n f later rest true q sum less e s hit on =
    let here : m ≡ at = omega arith in
    (record { is = q ∙ sym (eq-eqb at m (sym here)); past = λ lt. absurd (omega arith) }, hit (same_eq key n q) here)
leaves_step {at} {m} below key n f later rest false q sum less e s hit on =
    (record { is = q ∙ sym (ne_eqb at m (λ same. omega arith)); past = λ lt. omega arith }, on s (omega arith))

pub leaves_found : (t : List ℕ) (m at : ℕ) (f : Forest) → DistinctMembers (members_of t f) → let found = from_name t (bytes "localizations") f in
    HasFirst found → m + size found ≡ at + size f → LeavesOut t m true at f
unfolding members_of from_name size
leaves_found t m at T.none d s e = absurd s
leaves_found t m at (leaf kind ns ne from to rest) d s e =
    leaves_step 0 (name_of t ns ne) (bytes "localizations") (leaf kind ns ne from to rest) (from_name t (bytes "localizations") rest) rest
    (same (name_of t ns ne) (bytes "localizations")) refl (omega arith) (from_size t (bytes "localizations") rest) e s
    (λ k h. none_leaves t (at + 1) rest (rw k at d.0) (omega arith))
    (λ more ends. leaves_found t m (at + 1) rest d.2 more (omega (arith, ends)))
leaves_found t m at (node b ns ne from to inside rest) d s e =
    leaves_step (size inside) (name_of t ns ne) (bytes "localizations") (node b ns ne from to inside rest) (from_name t (bytes "localizations") rest) rest
    (same (name_of t ns ne) (bytes "localizations")) refl (omega arith) (from_size t (bytes "localizations") rest) e s
    (λ k h. none_leaves t (at + 1 + size inside) rest (rw k at d.0) (omega arith))
    (λ more ends. leaves_found t m (at + 1 + size inside) rest d.2 more (omega (arith, ends)))
