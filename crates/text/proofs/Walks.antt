-- The laws of the two walks over a string:
--     long, past_end                 a character is 1 to 12 bytes long; at the end of the text stands refusal 2
--     end_step, decode-step          each walk's own equation: one step, and then the walk from the next place on
-- Assumes nothing.
use Rattle.std.specs.Prelude.{Option, Some, None, Result, Ok, Err}
use Rattle.text.specs.declared.Fault.{Fault}
use Rattle.text.specs.declared.Fault.TheVariants.{Malformed, Forbidden}
use mathlib.Core.Path.{◌≡◌, refl, ap, subst, ◌∙◌}
use mathlib.Core.List.{List, []}
use mathlib.Core.Bool.{Bool, true, false, cond}
use Prim.Native.Nat.{ℕ, ◌+◌, ◌≤◌, ◌<◌}
use native.Mathlib.Decide.{dec_le}
use native.Mathlib.Omega.{arith}
use lib.ListN.{length, get_or-eq_default}
use lib.Dec.{eqb}
use borrow.Author.Rules.{rules}
use Rattle.text.specs.Text.{byte_at}
use Rattle.text.specs.Chars.{checked_at, raw_at, low_at, pair_at, unit_at, on_hex, escape_at, step_by, step_at}
use Rattle.laws.proofs.Scans.{scan_step}
use Rattle.text.specs.Strings.{on_step, end_body, string_end, Piece, stop, piece, piece_of, piece_by, on_piece, decode_body, decode_from}

-- ---- lengths ----

-- a character is 1 to 12 bytes long
pub record Length (n : ℕ) : Type 0 where
  pub some : 0 < n
  pub few : n ≤ 12

abbrev pub Long : Result (Option (ℕ × ℕ)) (Fault ℕ) → Type 0
Long (Ok None) = Prim.Unit {0}
Long (Ok (Some (code, n))) = Length n
Long (Err (Malformed p)) = Prim.Unit {0}
Long (Err (Forbidden p)) = Prim.Unit {0}

long_cond : (b : Bool) (x y : Result (Option (ℕ × ℕ)) (Fault ℕ)) → Long x → Long y → Long (cond b x y)
long_cond true x y p q = p
long_cond false x y p q = q

checked_long : (i code n : ℕ) → Length n → Long (checked_at i code n)
unfolding checked_at
checked_long i code n h = search (rules, long_cond, tt) depth 9

low_long : (i high : ℕ) (h : Result ℕ ℕ) → Long (low_at i high h)
unfolding low_at
low_long i high (Err p) = tt
low_long i high (Ok low) = search (rules, long_cond, checked_long, tt) depth 9

pair_long : (t : List ℕ) (i high : ℕ) → Long (pair_at t i high)
unfolding pair_at
pair_long t i high = search (rules, long_cond, low_long, tt) depth 9

unit_long : (t : List ℕ) (i u : ℕ) → Long (unit_at t i u)
unfolding unit_at
unit_long t i u = search (rules, long_cond, checked_long, pair_long, tt) depth 9

hex_long : (t : List ℕ) (i : ℕ) (h : Result ℕ ℕ) → Long (on_hex t i h)
unfolding on_hex
hex_long t i (Ok u) = unit_long t i u
hex_long t i (Err p) = tt

pub escape_long : (t : List ℕ) (i : ℕ) → Long (escape_at t i)
unfolding escape_at
escape_long t i = search (rules, long_cond, hex_long, tt) depth 9

raw_long : (t : List ℕ) (i b : ℕ) → Long (raw_at t i b)
unfolding raw_at
raw_long t i b = search (rules, long_cond, checked_long, tt) depth 9

pub long : (t : List ℕ) (i : ℕ) → Long (step_at t i)
unfolding step_by
long t i = search (rules, long_cond, escape_long, raw_long, tt) depth 9

-- ---- the end of the text ----

pub past_end : (t : List ℕ) (i : ℕ) → length t ≤ i → step_at t i ≡ Err (Malformed i)
unfolding step_by
past_end t i h = rw (get_or-eq_default t 256 h)

-- ---- the walks' equations ----

on_step_later : (k l : ℕ → Result ℕ (Fault ℕ)) (i : ℕ) (s : Result (Option (ℕ × ℕ)) (Fault ℕ)) → Long s → ((j : ℕ) → i < j → k j ≡ l j) → on_step k i s ≡ on_step l i s
on_step_later k l i (Ok None) h e = refl
on_step_later k l i (Ok (Some (code, n))) h e = e (i + n) (omega arith)
on_step_later k l i (Err (Malformed p)) h e = refl
on_step_later k l i (Err (Forbidden p)) h e = refl

pub end_step : (t : List ℕ) (i : ℕ) → string_end t i ≡ on_step (string_end t) i (step_at t i)
unfolding string_end
end_step t i =
    scan_step (end_body t) (Err (Malformed 0)) (length t)
    (λ k l j e. on_step_later k l j (step_at t j) (long t j) e)
    (λ k l j h. rw (past_end t j h))
    i

abbrev pub LongPiece : Piece → Type 0
LongPiece stop = Prim.Unit {0}
LongPiece (piece bs n) = Length n

piece_of_long : (s : Result (Option (ℕ × ℕ)) (Fault ℕ)) → Long s → LongPiece (piece_of s)
piece_of_long (Ok None) h = tt
piece_of_long (Ok (Some (code, n))) h = h
piece_of_long (Err (Malformed p)) h = tt
piece_of_long (Err (Forbidden p)) h = tt

pub piece_cond : (b : Bool) (x y : Piece) → LongPiece x → LongPiece y → LongPiece (cond b x y)
piece_cond true x y p q = p
piece_cond false x y p q = q

pub piece_long : (t : List ℕ) (i b : ℕ) → LongPiece (piece_by t i b)
unfolding piece_by
piece_long t i b =
    piece_cond (eqb b 256) _ _ tt (piece_cond (eqb b 92) _ _ (piece_of_long (escape_at t i) (escape_long t i)) (omega arith))

pub on_piece_later : (k l : ℕ → List ℕ) (i : ℕ) (p : Piece) → LongPiece p → ((j : ℕ) → i < j → k j ≡ l j) → on_piece k i p ≡ on_piece l i p
on_piece_later k l i stop h e = refl
on_piece_later k l i (piece bs n) h e = rw (e (i + n) (omega arith))

pub past_piece : (t : List ℕ) (i : ℕ) → length t ≤ i → piece_by t i (byte_at t i) ≡ stop
unfolding piece_by
past_piece t i h = rw (get_or-eq_default t 256 h)

pub decode_step : (t : List ℕ) (i : ℕ) → decode_from t i ≡ on_piece (decode_from t) i (piece_by t i (byte_at t i))
unfolding decode_from
decode_step t i =
    scan_step (decode_body t) [] (length t)
    (λ k l j e. on_piece_later k l j (piece_by t j (byte_at t j)) (piece_long t j (byte_at t j)) e)
    (λ k l j h. rw (past_piece t j h))
    i

-- ---- the laws as the loops use them ----

pub end_at_lem : (t : List ℕ) (i : ℕ) (s : Result (Option (ℕ × ℕ)) (Fault ℕ)) → step_at t i ≡ s → string_end t i ≡ on_step (string_end t) i s
end_at_lem t i s e = end_step t i ∙ ap (on_step (string_end t) i) e

pub decode_at : (t : List ℕ) (i : ℕ) (p : Piece) → piece_by t i (byte_at t i) ≡ p → decode_from t i ≡ on_piece (decode_from t) i p
decode_at t i p e = decode_step t i ∙ ap (on_piece (decode_from t) i) e

-- where anything but refusal 2 stands, the text has not ended
pub close_inside : (t : List ℕ) (i : ℕ) → step_at t i ≡ (Ok None) → i < length t
close_inside t i e = elim (dec_le (length t) i) [
  | yes h ↦ let p : step_at t i ≡ Err (Malformed i) = past_end t i h in let z : ◌≡◌ {A = ℕ} 0 1 = cc in absurd (omega arith)
  | no h ↦ omega arith
]

pub record Inside (t : List ℕ) (i n : ℕ) : Type 0 where
  pub before_end : i < length t
  pub size : Length n

pub char_inside : (t : List ℕ) (i : ℕ) {code n : ℕ} → step_at t i ≡ Ok (Some (code, n)) → Inside t i n
char_inside t i {code} {n} e = elim (dec_le (length t) i) [
  | yes h ↦ let p : step_at t i ≡ Err (Malformed i) = past_end t i h in let z : ◌≡◌ {A = ℕ} 0 1 = cc in absurd (omega arith)
  | no h ↦ record { before_end = omega arith; size = subst Long e (long t i) }
]

pub escape_char : (t : List ℕ) (i : ℕ) {code n : ℕ} → escape_at t i ≡ Ok (Some (code, n)) → Length n
escape_char t i e = subst Long e (escape_long t i)
