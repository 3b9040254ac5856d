-- A name up to its closing quote is the name:
--     quoted-at       one step of the walk
--     quoted-name     where a string ends, what is decoded up to its quote is what its inner bytes decode to
-- Assumes nothing.
use Rattle.std.specs.Prelude.{Option, Result, Ok}
use Rattle.text.specs.declared.Fault.{Fault}
use mathlib.Core.Path.{◌≡◌, sym, ap, ◌∙◌}
use mathlib.Core.List.{List, [], ◌∷◌, ◌++◌, append-nil}
use Prim.Native.Nat.{ℕ, ◌+◌, ◌-◌, ◌≤◌}
use native.Mathlib.Omega.{arith}
use lib.ListN.{length, drop, get_or-eq_default}
use lib.Dec.{eqb}
use borrow.Author.Tests.{ne_eqb}
use Rattle.laws.proofs.Scans.{scan_step}
use Rattle.laws.proofs.Splits.{there_part, length_part}
use Rattle.laws.specs.Lists.{part_of}
use Rattle.text.specs.Text.{byte_at}
use Rattle.text.specs.Chars.{escape_at}
use Rattle.text.specs.Strings.{string_end, Piece, stop, piece, piece_of, piece_by, on_piece, name_of}
use Rattle.text.specs.Spelling.{Spells, utf8s}
use Rattle.text.proofs.Walks.{LongPiece, piece_cond, piece_long, on_piece_later}
use Rattle.text.proofs.Laws.{end_inside}
use Rattle.text.proofs.Spelling.Ends.{ended_spells}
use Rattle.text.proofs.Spelling.Decoded.{spelled_through, name_decoded}
use Rattle.repeats.specs.Quoted.{inner_piece, quoted_body, quoted_from}

-- ---- the walk's equation

inner_long : (t : List ℕ) (i b : ℕ) → LongPiece (inner_piece t i b)
unfolding inner_piece
inner_long t i b = piece_cond (eqb b 34) _ _ tt (piece_long t i b)

inner_past : (t : List ℕ) (i : ℕ) → length t ≤ i → inner_piece t i (byte_at t i) ≡ stop
unfolding inner_piece piece_by
inner_past t i h = rw (get_or-eq_default t 256 h)

quoted_step : (t : List ℕ) (i : ℕ) → quoted_from t i ≡ on_piece (quoted_from t) i (inner_piece t i (byte_at t i))
unfolding quoted_from
quoted_step t i =
    scan_step (quoted_body t) [] (length t)
    (λ k l j e. on_piece_later k l j (inner_piece t j (byte_at t j)) (inner_long t j (byte_at t j)) e)
    (λ k l j h. rw (inner_past t j h))
    i

pub quoted_at_lem : (t : List ℕ) (i : ℕ) (p : Piece) → inner_piece t i (byte_at t i) ≡ p → quoted_from t i ≡ on_piece (quoted_from t) i p
quoted_at_lem t i p e = quoted_step t i ∙ ap (on_piece (quoted_from t) i) e

-- ---- by the byte at a place

pub quoted_close : (t : List ℕ) (i : ℕ) → byte_at t i ≡ 34 → quoted_from t i ≡ []
unfolding inner_piece
quoted_close t i e = quoted_at_lem t i stop (rw e)

pub quoted_over : (t : List ℕ) (i : ℕ) → byte_at t i ≡ 256 → quoted_from t i ≡ []
unfolding inner_piece piece_by
quoted_over t i e = quoted_at_lem t i stop (rw e)

pub quoted_raw : (t : List ℕ) (i b : ℕ) → byte_at t i ≡ b → (b ≡ 34 → ⊥) → (b ≡ 92 → ⊥) → (b ≡ 256 → ⊥) → quoted_from t i ≡ b ∷ quoted_from t (i + 1)
unfolding inner_piece piece_by
quoted_raw t i b e q s z = quoted_at_lem t i (piece (b ∷ []) 1) (simp (e, ne_eqb b 34 q, ne_eqb b 256 z, ne_eqb b 92 s))

pub quoted_escape : (t : List ℕ) (i : ℕ) → byte_at t i ≡ 92 → quoted_from t i ≡ on_piece (quoted_from t) i (piece_of (escape_at t i))
unfolding inner_piece piece_by
quoted_escape t i e = quoted_at_lem t i (piece_of (escape_at t i)) (rw e)

-- ---- all of a name

quoted_through : (t : List ℕ) (i : ℕ) {w cs : List ℕ} → Spells w cs → (r : List ℕ) → drop i t ≡ w ++ r → quoted_from t i ≡ utf8s cs ++ quoted_from t (i + length w)
quoted_through t = spelled_through t (quoted_from t) (quoted_raw t) (λ i c n e q. quoted_escape t i e ∙ ap (λ (x : Result (Option (ℕ × ℕ)) (Fault ℕ)). on_piece (quoted_from t) i (piece_of x)) q)

pub quoted_name : (t : List ℕ) (i e : ℕ) → string_end t i ≡ Ok e → quoted_from t i ≡ name_of t i (e - 1)
quoted_name t i e q =
    let s = ended_spells t i e q in
    let h = end_inside t i e q in
    let n : i + length (part_of t i (e - 1)) ≡ e - 1 = omega (arith, length_part t i (e - 1) (omega arith) (omega arith)) in
    quoted_through t i s.spelled (drop (e - 1) t) (there_part t i (e - 1) (omega arith) (omega arith))
    ∙ ap (λ (j : ℕ). utf8s s.codes ++ quoted_from t j) n
    ∙ ap (λ (bs : List ℕ). utf8s s.codes ++ bs) (quoted_close t (e - 1) s.quote)
    ∙ append-nil (utf8s s.codes) ∙ sym (name_decoded t i e q)
