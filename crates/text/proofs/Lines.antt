-- How a call ends (specs/Sheet.antt):
--     on_line, text-line             the numbers of a refusal stand on a line of the sheet, those of reading on 1 to 7
--     refused-ends, accepted-ends    a refusal leaves zero alone, acceptance what is written and zero behind it
--     same_number, same_second       equal answers have equal numbers
-- Assumes nothing.
use Prim.Native.Nat.{ℕ, ◌-◌, ◌*◌, ◌≤◌}
use native.Mathlib.Nat.{sub-zero}
use native.Mathlib.Omega.{arith}
use mathlib.Core.Path.{◌≡◌, ap}
use mathlib.Core.List.{List, []}
use lib.ListN.{length}
use Rattle.laws.specs.Lists.{filled}
use Rattle.text.specs.Limits.{row_words}
use Rattle.text.specs.declared.Paper.{Paper}
use Rattle.text.specs.Sheet.{numbers, refused, leaves, Within, EndsBy, acceptance, refusal}
use Rattle.text.specs.declared.Refusal.{Refusal}
use Rattle.text.specs.declared.Refusal.TheVariants.{TooLong, Grammar, Character, Repeated, Deep, Many, Small}

-- ---- lines of the sheet

-- the numbers of a refusal, on one of these lines
pub data OnLine (Line : ℕ → Type 0) : Paper → Type 0 where
  on_line : (n second : ℕ) → Line n → OnLine Line (numbers n second 0)

pub wider : {Line Wide : ℕ → Type 0} {p : Paper} → ((n : ℕ) → Line n → Wide n) → OnLine Line p → OnLine Wide p
wider f (on_line n second l) = on_line n second (f n l)

pub line_of : {Line : ℕ → Type 0} {p : Paper} → OnLine Line p → Line p.number
line_of (on_line n second l) = l

pub text_line : (r : Refusal) → OnLine (Within 1 7) (refused r)
unfolding refused
text_line TooLong = on_line 1 0 (omega arith)
text_line (Grammar p) = on_line 2 p (omega arith)
text_line (Character p) = on_line 3 p (omega arith)
text_line (Repeated p) = on_line 4 p (omega arith)
text_line (Deep p) = on_line 5 p (omega arith)
text_line (Many p) = on_line 6 p (omega arith)
text_line (Small n) = on_line 7 n (omega arith)

-- ---- the same numbers

pub same_number : {p q : Paper} → p ≡ q → p.number ≡ q.number
same_number e = ap (λ (a : Paper). a.number) e

pub same_second : {p q : Paper} → p ≡ q → p.second ≡ q.second
same_second e = ap (λ (a : Paper). a.second) e

-- ---- how a call ends

module _ {Line : ℕ → Type 0} (words room : ℕ) where
  -- a refusal leaves zero alone
  pub refused_ends : {p : Paper} → OnLine Line p → EndsBy Line words room (leaves p (filled words []) (filled room []))
  refused_ends (on_line n second l) = rw (sub-zero words, sub-zero room) (refusal l)

  -- acceptance leaves what is written, and zero behind it
  pub accepted_ends : (rows bytes : List ℕ) (count : ℕ) → length rows ≡ row_words * count → length rows ≤ words → length bytes ≤ room
      → EndsBy Line words room (leaves (numbers 0 count (length bytes)) (filled words rows) (filled room bytes))
  accepted_ends rows bytes count e l k = acceptance rows bytes count (words - length rows) (room - length bytes) e (omega arith) (omega arith)
