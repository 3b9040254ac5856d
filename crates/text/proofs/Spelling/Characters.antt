-- The step is right about one character:
--     char-at                        where the step at i is c of n bytes, n bytes stand from i on that spell c
--     one_char, one-length           the character at a place is unique, and so is its length
--     some_bytes                     a spelling has a byte
-- No bound on the elements of the text is asked: what is no byte is taken as the end.
-- Assumes nothing.
use Rattle.std.specs.Prelude.{Option, Some, None, Result, Ok, Err}
use Rattle.text.specs.declared.Fault.{Fault}
use mathlib.Core.Path.{◌≡◌, refl, sym, ap, subst, ◌∙◌}
use mathlib.Core.List.{List, [], ◌++◌}
use Prim.Native.Nat.{ℕ, ◌<◌}
use lib.ListN.{length, drop}
use lib.Seq.{drop-append_seam}
use Rattle.text.specs.Chars.{step_at}
use Rattle.text.specs.Spelling.{Spell}
use Rattle.text.proofs.Walks.{char_inside}
use Rattle.text.proofs.Spelling.Taken.{spelled_step}
use Rattle.text.proofs.Spelling.Steps.{CharAt, StandsAt, stands_at}

pub char_at : (t : List ℕ) (i : ℕ) {c n : ℕ} → step_at t i ≡ Ok (Some (c, n)) → CharAt t i c n
char_at t i e = subst (StandsAt t i) e (stands_at t i)

-- ---- the character at a place is unique ----

at_first : {w : List ℕ} {c : ℕ} → Spell w c → (r : List ℕ) → step_at (w ++ r) 0 ≡ Ok (Some (c, length w))
at_first {w} s r = spelled_step (w ++ r) 0 s r refl

pub some_bytes : {w : List ℕ} {c : ℕ} → Spell w c → 0 < length w
some_bytes {w} s = (char_inside (w ++ []) 0 (at_first s [])).size.some

-- the code point and the length of a character that stands there
abbrev pub char_in : Result (Option (ℕ × ℕ)) (Fault ℕ) → ℕ × ℕ
char_in (Ok (Some p)) = p
char_in (Ok None) = (0, 0)
char_in (Err f) = (0, 0)

module _ {v w : List ℕ} {c d : ℕ} (s : Spell v c) (p : Spell w d) (x y : List ℕ) (e : v ++ x ≡ w ++ y) where
  both_steps : ◌≡◌ {A = (Result (Option (ℕ × ℕ)) (Fault ℕ))} (Ok (Some (c, length v))) (Ok (Some (d, length w)))
  both_steps = sym (at_first s x) ∙ ap (λ (t : List ℕ). step_at t 0) e ∙ at_first p y

  pub one_char : c ≡ d
  one_char = ap (λ x. (char_in x).0) both_steps

  pub one_length : length v ≡ length w
  one_length = ap (λ x. (char_in x).1) both_steps

  -- what follows it is the same, too
  pub one_rest : x ≡ y
  one_rest = sym (drop-append_seam v x) ∙ ap (drop (length v)) e ∙ rw one_length (drop-append_seam w y)
