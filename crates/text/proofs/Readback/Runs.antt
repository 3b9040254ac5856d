-- Bytes that stand in a text at a place, its parts, and quotes around what spells. Assumes nothing.
use mathlib.Core.Path.{◌≡◌, refl, sym, ap, ◌∙◌}
use mathlib.Core.List.{List, [], ◌∷◌, ◌++◌, append_assoc}
use Prim.Native.Nat.{ℕ, ◌+◌, ◌-◌, ◌≤◌}
use native.Mathlib.Omega.{arith}
use lib.ListN.{length, drop, length-append}
use Rattle.laws.specs.Lists.{part_of}
use Rattle.laws.proofs.Splits.{first_there, beyond, part_there, there_part, length_part}
use Rattle.laws.proofs.Parts.{part_some}
use Rattle.text.specs.Spelling.{Spells}
use Rattle.text.specs.Placed.{Quoted}

-- the bytes w stand in t at a place
pub record BytesAt (t : List ℕ) (at : ℕ) (w : List ℕ) : Type 0 where
  pub rest : List ℕ
  pub there : drop at t ≡ w ++ rest
  pub inside : at + length w ≤ length t

module _ {t : List ℕ} {at : ℕ} where
  pub at_left : (u v : List ℕ) → BytesAt t at (u ++ v) → BytesAt t at u
  at_left u v a =
      record { rest = v ++ a.rest; there = a.there ∙ append_assoc u v a.rest; inside = omega (arith, a.inside, length-append u v) }

  pub at_right : (u v : List ℕ) (to : ℕ) → BytesAt t at (u ++ v) → at + length u ≡ to → BytesAt t to v
  at_right u v to a e =
      record {
        rest = a.rest;
        there = ap (λ (j : ℕ). drop j t) (sym e) ∙ beyond t at u (v ++ a.rest) (a.there ∙ append_assoc u v a.rest);
        inside = omega (arith, a.inside, length-append u v);
      }

  pub part_at : (w : List ℕ) (to : ℕ) → BytesAt t at w → at + length w ≡ to → part_of t at to ≡ w
  part_at w to a e = ap (part_of t at) (sym e) ∙ part_there t at w a.rest a.there a.inside

-- behind a byte between two runs of bytes
pub at_behind : {t : List ℕ} {at : ℕ} (x : ℕ) (u s r w : List ℕ) (to : ℕ) → BytesAt t at (u ++ (s ++ x ∷ (r ++ w))) → at + length u + length s + 1 + length r ≡ to → BytesAt t to w
at_behind {t} {at} x u s r w to a e =
    at_right (x ∷ r) w to (at_right s (x ∷ (r ++ w)) (at + length u + length s) (at_right u (s ++ x ∷ (r ++ w)) (at + length u) a refl) refl) (omega arith)

-- a part with quotes around what spells
pub part_quoted : (t : List ℕ) (from to : ℕ) (w codes : List ℕ) → part_of t from to ≡ 34 ∷ w ++ (34 ∷ []) → Spells w codes → Quoted t (from + 1) (to - 1)
part_quoted t from to w codes e s =
    let (l, k) = part_some t from to 34 (w ++ (34 ∷ [])) e in
    let n : to - from ≡ length w + 2 = sym (length_part t from to l k) ∙ ap length e ∙ omega (arith, length-append w (34 ∷ [])) in
    let a : BytesAt t from (34 ∷ w ++ (34 ∷ [])) =
    record { rest = drop to t; there = there_part t from to l k ∙ ap (λ (v : List ℕ). v ++ drop to t) e; inside = omega (arith, length-append w (34 ∷ [])) } in
    let inner : BytesAt t (from + 1) (w ++ (34 ∷ [])) = at_right (34 ∷ []) (w ++ (34 ∷ [])) (from + 1) a refl in
    let last : BytesAt t (to - 1) (34 ∷ []) = at_right w (34 ∷ []) (to - 1) inner (omega arith) in
    let before : from + 1 - 1 ≡ from = omega arith in
    let part : part_of t (from + 1) (to - 1) ≡ w = part_at w (to - 1) (at_left w (34 ∷ []) inner) (omega arith) in
    record {
      first = omega arith;
      ordered = omega arith;
      inside = omega arith;
      opens = rw before (first_there t from 34 (w ++ (34 ∷ []) ++ a.rest) a.there 256);
      closes = first_there t (to - 1) 34 last.rest last.there 256;
      codes = codes;
      spells = rw part s;
    }
