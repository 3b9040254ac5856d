-- `json_reader::chars::letter` meets its contract: the test that holds puts its number for b, and the definition computes; where none holds, none of the
-- definition's does. Assumes nothing.
use mathlib.Core.Path.{◌≡◌}
use Prim.Native.Nat.{ℕ}
use native.Mathlib.Omega.{arith}
use borrow.Author.Tests.{ne_eqb}
use Rattle.text.specs.Chars.{letter_of}
use Rattle.json_reader.proofs.chars.letter.Goals as goal

no_letter : (b : ℕ) → (b ≡ 34 → ⊥) → (b ≡ 47 → ⊥) → (b ≡ 92 → ⊥) → (b ≡ 98 → ⊥) → (b ≡ 102 → ⊥) → (b ≡ 110 → ⊥) → (b ≡ 114 → ⊥) → (b ≡ 116 → ⊥)
    → 0 ≡ letter_of b
unfolding letter_of
no_letter b p q r s t u v w =
    rw (ne_eqb b 34 p, ne_eqb b 47 q, ne_eqb b 92 r, ne_eqb b 98 s, ne_eqb b 102 t, ne_eqb b 110 u, ne_eqb b 114 v, ne_eqb b 116 w)

pub returns-then-b-eq-QUOTE : goal.returns-then-b-eq-QUOTE
unfolding letter_of
returns-then-b-eq-QUOTE c = rw c.if-b-eq-QUOTE.true

pub returns-then-b-eq-SLASH : goal.returns-then-b-eq-SLASH
unfolding letter_of
returns-then-b-eq-SLASH c = rw c.if-b-eq-SLASH.true

pub returns-then-b-eq-BACKSLASH : goal.returns-then-b-eq-BACKSLASH
unfolding letter_of
returns-then-b-eq-BACKSLASH c = rw c.if-b-eq-BACKSLASH.true

pub returns-then-b-lt-SMALL_B : goal.returns-then-b-lt-SMALL_B
unfolding letter_of
returns-then-b-lt-SMALL_B c = no_letter c.args.b c.if-b-eq-QUOTE.false c.if-b-eq-SLASH.false c.if-b-eq-BACKSLASH.false (λ e. omega arith) (λ e. omega arith) (λ e. omega arith) (λ e. omega arith) (λ e. omega arith)

pub returns-then-b-eq-SMALL_B : goal.returns-then-b-eq-SMALL_B
unfolding letter_of
returns-then-b-eq-SMALL_B c = rw c.if-b-eq-SMALL_B.true

pub returns-then-b-eq-SMALL_F : goal.returns-then-b-eq-SMALL_F
unfolding letter_of
returns-then-b-eq-SMALL_F c = rw c.if-b-eq-SMALL_F.true

pub returns-then-b-eq-SMALL_N : goal.returns-then-b-eq-SMALL_N
unfolding letter_of
returns-then-b-eq-SMALL_N c = rw c.if-b-eq-SMALL_N.true

pub returns-then-b-lt-SMALL_O : goal.returns-then-b-lt-SMALL_O
unfolding letter_of
returns-then-b-lt-SMALL_O c = no_letter c.args.b (λ e. omega arith) (λ e. omega arith) (λ e. omega arith) c.if-b-eq-SMALL_B.false c.if-b-eq-SMALL_F.false c.if-b-eq-SMALL_N.false (λ e. omega arith) (λ e. omega arith)

pub returns-then-b-eq-SMALL_R : goal.returns-then-b-eq-SMALL_R
unfolding letter_of
returns-then-b-eq-SMALL_R c = rw c.if-b-eq-SMALL_R.true

pub returns-then-b-eq-SMALL_T : goal.returns-then-b-eq-SMALL_T
unfolding letter_of
returns-then-b-eq-SMALL_T c = rw c.if-b-eq-SMALL_T.true

pub returns : goal.returns
unfolding letter_of
returns c = no_letter c.args.b (λ e. omega arith) (λ e. omega arith) (λ e. omega arith) (λ e. omega arith) (λ e. omega arith) (λ e. omega arith) c.if-b-eq-SMALL_R.false c.if-b-eq-SMALL_T.false
