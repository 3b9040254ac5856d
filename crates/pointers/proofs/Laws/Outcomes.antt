-- What the contracts of the functions that say what follows a part allow is one answer:
--     one-crossing    by a cursor
--     one-landing     by a place
-- and a cursor behind a `/` stands where a character begins (`slash_fresh`), not far past the end (`crossed`).
-- Assumes nothing.
use Rattle.std.specs.Prelude.{Option, Some, None, Result, Ok, Err}
use Rattle.text.specs.declared.Fault.{Fault}
use Rattle.text.specs.declared.Fault.TheVariants.{Malformed, Forbidden}
use Prim.Native.Nat.{ℕ, ◌+◌, ◌/◌, ◌%◌, ◌<◌, ◌≤◌}
use mathlib.Core.Path.{◌≡◌, refl, sym, ap, ◌∙◌}
use mathlib.Core.Bool.{Bool, true, false, cond}
use mathlib.Core.List.{List}
use native.Mathlib.Omega.{arith}
use lib.ListN.{length}
use lib.Dec.{eqb, ltb}
use borrow.Author.Tests.{eqb-true}
use Rattle.laws.proofs.Places.{inside}
use Rattle.text.specs.Text.{byte_at}
use Rattle.text.specs.Chars.{escape_at}
use Rattle.text.proofs.Promise.{escape_char}
use Rattle.json_reader.specs.Cursors.{cursor, first_of, escaped, fresh_of, next_of}
use Rattle.json_reader.specs.declared.decode.Cursor.{Cursor}
use Rattle.pointers.specs.Parts.{Crosses, at_end, at_slash, past, CrossesTo, longest_escape}

one_byte : {b e : ℕ} {c d : Cursor} → ◌≡◌ {A = Option (ℕ × Cursor)} (Some (b, c)) (Some (e, d)) → (b ≡ e) × (c ≡ d)
one_byte {b} {e} {c} {d} h = let p : ◌≡◌ {A = ℕ × Cursor} (b, c) (e, d) = cc in (ap (λ x. x.0) p, ap (λ x. x.1) p)

pub one_crossing : (key : List ℕ) {c : Cursor} {r s : (Option Cursor)} → Crosses key c r → Crosses key c s → r ≡ s
one_crossing key (at_end o) (at_end p) = refl
one_crossing key (at_end o) (at_slash p) = let z : ◌≡◌ {A = ℕ} 0 1 = cc in absurd (omega arith)
one_crossing key (at_end o) (past p n y) = let z : ◌≡◌ {A = ℕ} 0 1 = cc in absurd (omega arith)
one_crossing key (at_slash o) (at_end p) = let z : ◌≡◌ {A = ℕ} 0 1 = cc in absurd (omega arith)
one_crossing key (at_slash o) (at_slash p) = ap Some (one_byte (sym o ∙ p)).1
one_crossing key (at_slash o) (past p n y) = absurd (n (sym (one_byte (sym o ∙ p)).0))
one_crossing key (past o n x) (at_end p) = let z : ◌≡◌ {A = ℕ} 0 1 = cc in absurd (omega arith)
one_crossing key (past o n x) (at_slash p) = absurd (n (one_byte (sym o ∙ p)).0)
one_crossing key {r = r} {s = s} (past {d = d} o n x) (past {d = e} p m y) =
    one_crossing key x (rw (← (one_byte (sym o ∙ p)).1) at y)

one_cursor : {c d : Cursor} → Some c ≡ Some d → c ≡ d
one_cursor e = cc

-- ---- behind a slash

-- where a character begins, the byte after it is at a place where one begins, or is one of a longer character
fresh_slash : (t : List ℕ) (at : ℕ) {d : Cursor} → fresh_of t at ≡ Some (47, d) → (d.left ≡ 0) × (d.at ≤ length t + longest_escape)
unfolding fresh_of first_of
fresh_slash t at {d} e = go (eqb (byte_at t at) 256) refl (eqb (byte_at t at) 92) refl e
  where
    first : (code to : ℕ) → to ≤ length t + longest_escape → first_of code to ≡ Some (47, d) → (d.left ≡ 0) × (d.at ≤ length t + longest_escape)
    first code to near q = by (ltb code 128) refl (ltb code 2048) refl (ltb code 65536) refl q
      where
        by : (a : Bool) → ltb code 128 ≡ a → (b : Bool) → ltb code 2048 ≡ b → (c : Bool) → ltb code 65536 ≡ c
            → cond {A = Option (ℕ × Cursor)} a (Some (code, cursor to code 0))
            (cond b (Some (192 + code / 64 % 32, cursor to code 1))
            (cond c (Some (224 + code / 4096 % 16, cursor to code 2)) (Some (240 + code / 262144 % 8, cursor to code 3)))) ≡ Some (47, d)
            → (d.left ≡ 0) × (d.at ≤ length t + longest_escape)
        by true x b y c z q = let s = (one_byte q).1 in (rw (← s), rw (← s) near)
        by false x true y c z q = let s = (one_byte q).0 in absurd (omega arith)
        by false x false y true z q = let s = (one_byte q).0 in absurd (omega arith)
        by false x false y false z q = let s = (one_byte q).0 in absurd (omega arith)

    step : (s : Result (Option (ℕ × ℕ)) (Fault ℕ)) → escape_at t at ≡ s → at < length t → escaped at s ≡ Some (47, d) → (d.left ≡ 0) × (d.at ≤ length t + longest_escape)
    step (Ok None) h lt q = let z : ◌≡◌ {A = ℕ} 0 1 = cc in absurd (omega arith)
    step (Ok (Some (code, n))) h lt q = first code (at + n) (omega (arith, (escape_char t at h).few)) q
    step (Err (Malformed p)) h lt q = let z : ◌≡◌ {A = ℕ} 0 1 = cc in absurd (omega arith)
    step (Err (Forbidden p)) h lt q = let z : ◌≡◌ {A = ℕ} 0 1 = cc in absurd (omega arith)

    go : (over : Bool) → eqb (byte_at t at) 256 ≡ over → (back : Bool) → eqb (byte_at t at) 92 ≡ back
        → cond over None (cond back (escaped at (escape_at t at)) (Some (byte_at t at, cursor (at + 1) 0 0))) ≡ Some (47, d)
        → (d.left ≡ 0) × (d.at ≤ length t + longest_escape)
    go true x back y q = let z : ◌≡◌ {A = ℕ} 0 1 = cc in absurd (omega arith)
    go false x true y q = step (escape_at t at) refl (inside t at (omega (arith, eqb-true (byte_at t at) 92 y))) q
    go false x false y q =
        let s = one_byte q in
        let lt = inside t at (omega (arith, s.0)) in
        (rw (← s.1), rw (← s.1) (omega arith))

pub slash_fresh : (t : List ℕ) (c : Cursor) {d : Cursor} → next_of t c ≡ Some (47, d) → (d.left ≡ 0) × (d.at ≤ length t + longest_escape)
unfolding next_of
slash_fresh t c {d} e = go (eqb c.left 0) (eqb c.left 1) (eqb c.left 2) e
  where
    go : (a b e : Bool)
        → cond a (fresh_of t c.at)
        (cond b (Some (128 + c.code % 64, cursor c.at c.code 0))
        (cond e (Some (128 + c.code / 64 % 64, cursor c.at c.code 1)) (Some (128 + c.code / 4096 % 64, cursor c.at c.code 2)))) ≡ Some (47, d)
        → (d.left ≡ 0) × (d.at ≤ length t + longest_escape)
    go true b e q = fresh_slash t c.at q
    go false true e q = let s = (one_byte q).0 in absurd (omega arith)
    go false false true q = let s = (one_byte q).0 in absurd (omega arith)
    go false false false q = let s = (one_byte q).0 in absurd (omega arith)

pub crossed : (t : List ℕ) {c d : Cursor} → Crosses t c (Some d) → (d.left ≡ 0) × (d.at ≤ length t + longest_escape)
crossed t (at_slash {c} o) = slash_fresh t c o
crossed t (past o n x) = crossed t x

-- ---- by a place

pub one_landing : (key : List ℕ) (at : ℕ) {r s : (Option ℕ)} → CrossesTo key at r → CrossesTo key at s → r ≡ s
one_landing key at {r = None} {s = None} x y = refl
one_landing key at {r = None} {s = Some to} x (c, y, e) = let f = one_crossing key x y in let z : ◌≡◌ {A = ℕ} 0 1 = cc in absurd (omega arith)
one_landing key at {r = Some to} {s = None} (c, x, e) y = let f = one_crossing key x y in let z : ◌≡◌ {A = ℕ} 0 1 = cc in absurd (omega arith)
one_landing key at {r = Some to} {s = Some of} (c, x, e) (d, y, f) =
    let g : c ≡ d = one_cursor (one_crossing key x y) in
    ap Some (sym e ∙ ap (λ (k : Cursor). k.at) g ∙ f)
