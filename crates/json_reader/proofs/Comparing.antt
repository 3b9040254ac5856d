-- Two names compared up to their closing quotes:
--     next-quoted, next-close      what a cursor hands out, up to the quote
--     common-none, common-next     bytes in common from two places on, and one more
--     ended-quote, ended-over      bytes at which a name is over
--     quoted-told                  where neither name goes on with a backslash, the bytes there decide, unless they are alike
--     quoted-differs               where neither name goes on with a backslash, the bytes there decide
-- Assumes nothing.
use Rattle.std.specs.Prelude.{Option, Some, None, Result, Ok, Err}
use Rattle.text.specs.declared.Fault.{Fault}
use Rattle.text.specs.declared.Fault.TheVariants.{Malformed, Forbidden}
use mathlib.Core.Path.{◌≡◌, refl, sym, ◌∙◌}
use mathlib.Core.List.{List, [], ◌∷◌, ◌++◌}
use mathlib.Core.Bool.{Bool, true, false, cond}
use Prim.Native.Nat.{ℕ, ◌+◌, ◌/◌, ◌%◌, ◌<◌}
use native.Mathlib.Nat.{add-zero}
use native.Mathlib.Omega.{arith}
use lib.Dec.{ltb, eqb}
use borrow.Author.Tests.{eq-eqb, ne_eqb, eqb-true, eqb-false}
use Rattle.laws.proofs.Orders.{order_on}
use Rattle.laws.proofs.Places.{inside}
use Rattle.laws.specs.Order.{order_of}
use Rattle.text.specs.Text.{byte_at}
use Rattle.text.specs.Chars.{escape_at}
use Rattle.text.specs.Strings.{piece_of, on_piece}
use Rattle.text.specs.Utf8.{utf8, conts}
use Rattle.repeats.specs.Quoted.{quoted_from}
use Rattle.repeats.proofs.Quoted.{quoted_close, quoted_over, quoted_raw, quoted_escape}
use Rattle.json_reader.specs.Names.{order_at}
use Rattle.json_reader.specs.Cursors.{cursor, first_of, escaped, fresh_of, next_of}
use Rattle.json_reader.specs.Quoted.{rest_to, unread_to, ended, CommonFrom, AlikeFrom}
use Rattle.json_reader.specs.declared.decode.Cursor.{Cursor}
use Rattle.json_reader.proofs.Alike.{by_number, order_heads}

-- ---- what a cursor hands out

module _ (t : List ℕ) where
  first_quoted : (code at : ℕ) → unread_to t (first_of code at) ≡ utf8 code ++ quoted_from t at
  unfolding first_of utf8 conts
  first_quoted code at = go (ltb code 128) (ltb code 2048) (ltb code 65536)
    where
      go : (x y z : Bool) → unread_to t (cond x (Some (code, cursor at code 0)) (cond y (Some (192 + code / 64 % 32, cursor at code 1))
          (cond z (Some (224 + code / 4096 % 16, cursor at code 2)) (Some (240 + code / 262144 % 8, cursor at code 3)))))
          ≡ cond x (code ∷ []) (cond y ((192 + code / 64 % 32) ∷ conts 1 code) (cond z ((224 + code / 4096 % 16) ∷ conts 2 code)
          ((240 + code / 262144 % 8) ∷ conts 3 code))) ++ quoted_from t at
      go true y z = refl
      go false true z = refl
      go false false true = refl
      go false false false = refl

  escape_quoted : (at : ℕ) (s : Result (Option (ℕ × ℕ)) (Fault ℕ)) → unread_to t (escaped at s) ≡ on_piece (quoted_from t) at (piece_of s)
  escape_quoted at (Ok None) = refl
  escape_quoted at (Ok (Some (code, n))) = first_quoted code (at + n)
  escape_quoted at (Err (Malformed p)) = refl
  escape_quoted at (Err (Forbidden p)) = refl

  fresh_quoted : (at : ℕ) → (byte_at t at ≡ 34 → ⊥) → unread_to t (fresh_of t at) ≡ quoted_from t at
  unfolding fresh_of conts
  fresh_quoted at q = go (eqb (byte_at t at) 256) refl (eqb (byte_at t at) 92) refl
    where
      go : (x : Bool) → eqb (byte_at t at) 256 ≡ x → (y : Bool) → eqb (byte_at t at) 92 ≡ y
          → unread_to t (cond x None (cond y (escaped at (escape_at t at)) (Some (byte_at t at, cursor (at + 1) 0 0)))) ≡ quoted_from t at
      go true e y f = sym (quoted_over t at (eqb-true (byte_at t at) 256 e))
      go false e true f = escape_quoted at (escape_at t at) ∙ sym (quoted_escape t at (eqb-true (byte_at t at) 92 f))
      go false e false f = sym (quoted_raw t at (byte_at t at) refl q (eqb-false (byte_at t at) 92 f) (eqb-false (byte_at t at) 256 e))

  pub next_quoted : (c : Cursor) → (c.left ≡ 0 → byte_at t c.at ≡ 34 → ⊥) → unread_to t (next_of t c) ≡ rest_to t c
  unfolding next_of conts
  next_quoted c q = go (eqb c.left 0) refl (eqb c.left 1) (eqb c.left 2)
    where
      code : ℕ
      code = c.code

      go : (x : Bool) → eqb c.left 0 ≡ x → (y z : Bool)
          → unread_to t (cond x (fresh_of t c.at) (cond y (Some (128 + code % 64, cursor c.at code 0))
          (cond z (Some (128 + code / 64 % 64, cursor c.at code 1)) (Some (128 + code / 4096 % 64, cursor c.at code 2)))))
          ≡ cond x [] (cond y ((128 + code % 64) ∷ []) (cond z ((128 + code / 64 % 64) ∷ (128 + code % 64) ∷ [])
          ((128 + code / 4096 % 64) ∷ (128 + code / 64 % 64) ∷ (128 + code % 64) ∷ []))) ++ quoted_from t c.at
      go true e y z = fresh_quoted c.at (q (eqb-true c.left 0 e))
      go false e true z = refl
      go false e false true = refl
      go false e false false = refl

  pub next_close : (c : Cursor) → c.left ≡ 0 → byte_at t c.at ≡ 34 → [] ≡ rest_to t c
  unfolding conts
  next_close c e q = rw e (sym (quoted_close t c.at q))

-- ---- the bytes as written

module _ (t : List ℕ) (a b : ℕ) where
  pub common_none : CommonFrom t a b 0
  common_none = record { ordered = rw (add-zero a, add-zero b); first = omega arith; second = omega arith }

  pub common_next : (k : ℕ) → CommonFrom t a b k → (byte_at t (a + k) ≡ 34 → ⊥) → (byte_at t (a + k) ≡ 92 → ⊥) → byte_at t (a + k) < 256
      → byte_at t (a + k) ≡ byte_at t (b + k) → CommonFrom t a b (k + 1)
  common_next k c q s h e =
      let x = byte_at t (a + k) in
      let i = inside t (a + k) h in
      let j = inside t (b + k) (omega arith) in
      let m : a + (k + 1) ≡ a + k + 1 = omega arith in
      let n : b + (k + 1) ≡ b + k + 1 = omega arith in
      let d = quoted_raw t (a + k) x refl q s (λ z. omega arith) in
      let f = quoted_raw t (b + k) x (sym e) q s (λ z. omega arith) in
      record {
        ordered = rw (m, n) (sym (rw (d, f) (order_on x x _ _ (omega arith) (omega arith))) ∙ c.ordered);
        first = omega arith;
        second = omega arith;
      }

-- ---- at the first difference

pub ended_quote : (b : ℕ) → b ≡ 34 → ended b ≡ 256
unfolding ended
ended_quote b e = rw e

pub ended_over : (b : ℕ) → b ≡ 256 → ended b ≡ 256
unfolding ended
ended_over b e = rw e

module _ (t : List ℕ) (i : ℕ) where
  over : ended (byte_at t i) ≡ 256 → quoted_from t i ≡ []
  unfolding ended
  over e = by_number (byte_at t i) 34 (λ q. quoted_close t i q) (λ n. quoted_over t i (rw (ne_eqb (byte_at t i) 34 n) at e))

  goes : (byte_at t i ≡ 92 → ⊥) → (ended (byte_at t i) ≡ 256 → ⊥) → quoted_from t i ≡ ended (byte_at t i) ∷ quoted_from t (i + 1)
  unfolding ended
  goes s e =
      by_number (byte_at t i) 34 (λ q. absurd (e (rw (eq-eqb (byte_at t i) 34 q))))
      (λ n. rw (ne_eqb (byte_at t i) 34 n) (quoted_raw t i (byte_at t i) refl n s (λ z. e (rw (ne_eqb (byte_at t i) 34 n) z))))

-- bytes that are both over or the same are both over, if the same ones are
both : (p q : ℕ) → (p ≡ q → ended p ≡ 256) → ended p ≡ ended q → ended p ≡ 256
unfolding ended
both p q stops e =
    by_number p 34 (λ z. rw (eq-eqb p 34 z))
    (λ n. by_number q 34 (λ z. e ∙ rw (eq-eqb q 34 z)) (λ m. stops (rw (ne_eqb p 34 n, ne_eqb q 34 m) at e)))

pub quoted_told : (t : List ℕ) (a b k : ℕ) {p q : ℕ} → CommonFrom t a b k → p ≡ byte_at t (a + k) → q ≡ byte_at t (b + k) → (p ≡ 92 → ⊥) → (q ≡ 92 → ⊥)
    → (ended p ≡ ended q → ended p ≡ 256) → order_at (ended p) (ended q) ≡ order_of (quoted_from t a) (quoted_from t b)
quoted_told t a b k {p} {q} h e f s z both =
    let x = byte_at t (a + k) in
    let y = byte_at t (b + k) in
    rw (e, f) (order_heads (ended x) (ended y) (quoted_from t (a + k)) (quoted_from t (b + k)) (over t (a + k)) (goes t (a + k) (λ m. s (e ∙ m)))
    (over t (b + k)) (goes t (b + k) (λ m. z (f ∙ m))) (rw (e, f) at both))
    ∙ h.ordered

pub quoted_differs : (t : List ℕ) (a b k : ℕ) {p q : ℕ} → AlikeFrom t a b k → p ≡ byte_at t (a + k) → q ≡ byte_at t (b + k) → (p ≡ 92 → ⊥) → (q ≡ 92 → ⊥)
    → order_at (ended p) (ended q) ≡ order_of (quoted_from t a) (quoted_from t b)
quoted_differs t a b k {p} {q} h e f s z =
    quoted_told t a b k h.common e f s z (both p q (λ g. rw e (h.stops (sym e ∙ g ∙ f) (λ m. s (e ∙ m)))))
