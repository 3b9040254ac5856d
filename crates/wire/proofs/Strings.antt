-- What whole reading does with the rest of a string, by the place inside it (`string_rest`), goes on with each byte as the automaton does
-- (`string_step`). Assumes nothing.
use Rattle.std.specs.Prelude.{Option, Some, None, Result, Ok, Err}
use Rattle.text.specs.declared.Fault.{Fault}
use Rattle.text.specs.declared.Fault.TheVariants.{Malformed, Forbidden}
use mathlib.Core.Path.{◌≡◌, refl, ◌∙◌}
use mathlib.Core.Logic.{◌⊎◌, inl, inr, ⊎_elim}
use mathlib.Core.List.{List}
use mathlib.Core.Bool.{Bool, true, false, cond}
use Prim.Native.Nat.{ℕ, zero, suc, ◌+◌, ◌-◌, ◌*◌, ◌%◌, ◌≤◌, ◌<◌}
use native.Mathlib.Decide.{dec_le}
use native.Mathlib.Omega.{arith}
use lib.Dec.{ltb, eqb}
use borrow.Author.Tests.{lt-ltb, le-ltb, eq-eqb, ne_eqb}
use Rattle.laws.proofs.Branches.{if_less, if_equal}
use Rattle.text.specs.Text.{byte_at}
use Rattle.text.specs.Chars.{digit_of, hex4_of, digit_at, hex4_at, checked_at, seq2, seq3, seq4, tail_at, raw_at, letter_of, low_at, pair_at, unit_at, on_hex, escape_at, step_by, step_at}
use Rattle.text.specs.Strings.{on_step, string_end}
use Rattle.text.proofs.Walks.{end_step}
use Rattle.text.proofs.Sequences.{by_seq2, by_seq3, by_seq4}
use Rattle.wire.specs.Inners.{sound, checked, unit_move, hex_move, tail_move, move3, move4, lead_move, paired, move_of}
use Rattle.wire.specs.declared.Inner.{Inner}
use Rattle.wire.specs.declared.Inner.TheVariants.{Plain, Escape, Four, Pair, PairU, Low1, Low2, Low3, Low4, Second3, Second4, Tails}

-- ---- the rest of a string

module _ (t : List ℕ) where
  -- a character is complete, and i is the place after it
  unfoldable pub check : (from code i : ℕ) → Result ℕ (Fault ℕ)
  check from c i = cond (sound c) (string_end t i) (Err (Forbidden from))

  unfoldable pub low4_rest : (from high v i : ℕ) → Result ℕ (Fault ℕ)
  low4_rest from high v i = cond (eqb (digit_at t i) 16) (Err (Forbidden from)) (check from (paired high (v % 64 * 16 + digit_at t i)) (i + 1))

  unfoldable pub low3_rest : (from high v i : ℕ) → Result ℕ (Fault ℕ)
  low3_rest from high v i = cond (eqb (digit_at t i) 16) (Err (Forbidden from)) (low4_rest from high (v % 64 * 16 + digit_at t i) (i + 1))

  unfoldable pub low2_rest : (from high i : ℕ) → Result ℕ (Fault ℕ)
  low2_rest from high i = cond (ltb (digit_at t i) 12) (Err (Forbidden from)) (cond (eqb (digit_at t i) 16) (Err (Forbidden from)) (low3_rest from high (digit_at t i - 12) (i + 1)))

  unfoldable pub low1_rest : (from high i : ℕ) → Result ℕ (Fault ℕ)
  low1_rest from high i = cond (eqb (digit_at t i) 13) (low2_rest from high (i + 1)) (Err (Forbidden from))

  unfoldable pub pair_uRest : (from high i : ℕ) → Result ℕ (Fault ℕ)
  pair_uRest from high i = cond (eqb (byte_at t i) 117) (low1_rest from high (i + 1)) (Err (Forbidden from))

  unfoldable pub pair_rest : (from high i : ℕ) → Result ℕ (Fault ℕ)
  pair_rest from high i = cond (eqb (byte_at t i) 92) (pair_uRest from high (i + 1)) (Err (Forbidden from))

  unfoldable pub unit_rest : (from u i : ℕ) → Result ℕ (Fault ℕ)
  unit_rest from u i = cond (ltb u 0xD800) (check from u i) (cond (ltb u 0xDC00) (pair_rest from u i) (check from u i))

  unfoldable pub hex_rest : (from left v i : ℕ) → Result ℕ (Fault ℕ)
  hex_rest from zero v i = cond (eqb (digit_at t i) 16) (Err (Malformed i)) (unit_rest from (v % 4096 * 16 + digit_at t i) (i + 1))
  hex_rest from (suc left) v i = cond (eqb (digit_at t i) 16) (Err (Malformed i)) (hex_rest from left (v % 4096 * 16 + digit_at t i) (i + 1))

  unfoldable pub escape_rest : (from i : ℕ) → Result ℕ (Fault ℕ)
  escape_rest from i = cond (eqb (byte_at t i) 117) (hex_rest from 3 0 (i + 1)) (cond (eqb (letter_of (byte_at t i)) 0) (Err (Malformed i)) (string_end t (i + 1)))

  unfoldable pub tail_rest : (from left c i : ℕ) → Result ℕ (Fault ℕ)
  tail_rest from zero c i = cond (ltb 63 (tail_at t i)) (Err (Forbidden from)) (check from (c % 65536 * 64 + tail_at t i) (i + 1))
  tail_rest from (suc left) c i = cond (ltb 63 (tail_at t i)) (Err (Forbidden from)) (tail_rest from left (c % 65536 * 64 + tail_at t i) (i + 1))

  unfoldable pub after3 : (from c i : ℕ) → Result ℕ (Fault ℕ)
  after3 from c i = cond (ltb c 32) (Err (Forbidden from)) (cond (ltb c 864) (tail_rest from 0 c i) (cond (ltb c 896) (Err (Forbidden from)) (tail_rest from 0 c i)))

  unfoldable pub after4 : (from c i : ℕ) → Result ℕ (Fault ℕ)
  after4 from c i = cond (ltb c 16) (Err (Forbidden from)) (cond (ltb c 272) (tail_rest from 1 c i) (Err (Forbidden from)))

  unfoldable pub rest3 : (from c i : ℕ) → Result ℕ (Fault ℕ)
  rest3 from c i = cond (ltb 63 (tail_at t i)) (Err (Forbidden from)) (after3 from (c % 65536 * 64 + tail_at t i) (i + 1))

  unfoldable pub rest4 : (from c i : ℕ) → Result ℕ (Fault ℕ)
  rest4 from c i = cond (ltb 63 (tail_at t i)) (Err (Forbidden from)) (after4 from (c % 65536 * 64 + tail_at t i) (i + 1))

-- the rest of a string from a place on
unfoldable pub string_rest : List ℕ → Inner → ℕ → Result ℕ (Fault ℕ)
string_rest t Plain i = string_end t i
string_rest t (Escape from) i = escape_rest t from i
string_rest t (Four from left v) i = hex_rest t from left v i
string_rest t (Pair from high) i = pair_rest t from high i
string_rest t (PairU from high) i = pair_uRest t from high i
string_rest t (Low1 from high) i = low1_rest t from high i
string_rest t (Low2 from high) i = low2_rest t from high i
string_rest t (Low3 from high v) i = low3_rest t from high v i
string_rest t (Low4 from high v) i = low4_rest t from high v i
string_rest t (Second3 from c) i = rest3 t from c i
string_rest t (Second4 from c) i = rest4 t from c i
string_rest t (Tails from left c) i = tail_rest t from left c i

-- what a move says of it
abbrev pub moved : List ℕ → ℕ → Result (Option Inner) (Fault ℕ) → Result ℕ (Fault ℕ)
moved t i (Ok (Some s)) = string_rest t s (i + 1)
moved t i (Ok None) = Ok (i + 1)
moved t i (Err (Malformed p)) = Err (Malformed p)
moved t i (Err (Forbidden p)) = Err (Forbidden p)

-- ---- inside a character: the same tests on both sides

module _ (t : List ℕ) (i : ℕ) where
  moved_cond : (x : Bool) (a b : Result (Option Inner) (Fault ℕ)) {c d : (Result ℕ (Fault ℕ))} → c ≡ moved t i a → d ≡ moved t i b → cond x c d ≡ moved t i (cond x a b)
  moved_cond true a b p q = p
  moved_cond false a b p q = q

  moved_check : (from c : ℕ) → check t from c (i + 1) ≡ moved t i (checked from c)
  unfolding check checked string_rest
  moved_check from c = moved_cond (sound c) (Ok (Some Plain)) (Err (Forbidden from)) refl refl

  moved_unit : (from u : ℕ) → unit_rest t from u (i + 1) ≡ moved t i (unit_move from u)
  unfolding unit_rest unit_move string_rest
  moved_unit from u =
      moved_cond (ltb u 0xD800) (checked from u) (cond (ltb u 0xDC00) (Ok (Some (Pair from u))) (checked from u)) (moved_check from u)
      (moved_cond (ltb u 0xDC00) (Ok (Some (Pair from u))) (checked from u) refl (moved_check from u))

  hex_step : (from left v : ℕ) → hex_rest t from left v i ≡ moved t i (cond (eqb (digit_at t i) 16) (Err (Malformed i)) (hex_move from left (v % 4096 * 16 + digit_at t i)))
  unfolding hex_rest hex_move string_rest
  hex_step from zero v = moved_cond (eqb (digit_at t i) 16) (Err (Malformed i)) (unit_move from (v % 4096 * 16 + digit_at t i)) refl (moved_unit from (v % 4096 * 16 + digit_at t i))
  hex_step from (suc left) v = moved_cond (eqb (digit_at t i) 16) (Err (Malformed i)) (Ok (Some (Four from left (v % 4096 * 16 + digit_at t i)))) refl refl

  tail_step : (from left c : ℕ) → tail_rest t from left c i ≡ moved t i (cond (ltb 63 (tail_at t i)) (Err (Forbidden from)) (tail_move from left (c % 65536 * 64 + tail_at t i)))
  unfolding tail_rest tail_move string_rest
  tail_step from zero c = moved_cond (ltb 63 (tail_at t i)) (Err (Forbidden from)) (checked from (c % 65536 * 64 + tail_at t i)) refl (moved_check from (c % 65536 * 64 + tail_at t i))
  tail_step from (suc left) c = moved_cond (ltb 63 (tail_at t i)) (Err (Forbidden from)) (Ok (Some (Tails from left (c % 65536 * 64 + tail_at t i)))) refl refl

  moved_3 : (from c : ℕ) → after3 t from c (i + 1) ≡ moved t i (move3 from c)
  unfolding after3 move3 string_rest
  moved_3 from c =
      let s : Result (Option Inner) (Fault ℕ) = Ok (Some (Tails from 0 c)) in
      moved_cond (ltb c 32) (Err (Forbidden from)) (cond (ltb c 864) s (cond (ltb c 896) (Err (Forbidden from)) s)) refl
      (moved_cond (ltb c 864) s (cond (ltb c 896) (Err (Forbidden from)) s) refl (moved_cond (ltb c 896) (Err (Forbidden from)) s refl refl))

  moved_4 : (from c : ℕ) → after4 t from c (i + 1) ≡ moved t i (move4 from c)
  unfolding after4 move4 string_rest
  moved_4 from c =
      let s : Result (Option Inner) (Fault ℕ) = Ok (Some (Tails from 1 c)) in
      moved_cond (ltb c 16) (Err (Forbidden from)) (cond (ltb c 272) s (Err (Forbidden from))) refl (moved_cond (ltb c 272) s (Err (Forbidden from)) refl refl)

-- ---- a whole character

-- the digits of a \u escape
pub digit_most : (b : ℕ) → digit_of b ≤ 16
unfolding digit_of
digit_most b =
    let P : ℕ → Type 0 = λ d. d ≤ 16 in
    if_less P b 48 (λ h. omega arith) (λ h1. if_less P b 58 (λ h. omega arith) (λ h2. if_less P b 65 (λ h. omega arith)
    (λ h3. if_less P b 71 (λ h. omega arith) (λ h4. if_less P b 97 (λ h. omega arith) (λ h5. if_less P b 103 (λ h. omega arith) (λ h6. omega arith))))))

pub sound_surrogate : (c : ℕ) → 0xD800 ≤ c → c < 0xE000 → sound c ≡ false
unfolding sound
sound_surrogate c h k = rw (le-ltb c 0xD800 h, lt-ltb c 0xE000 k)

pub sound_large : (c : ℕ) → 0x10FFFF < c → sound c ≡ false
unfolding sound
sound_large c h =
    rw (le-ltb c 0xD800 (omega arith), le-ltb c 0xE000 (omega arith), le-ltb c 0xFDD0 (omega arith), le-ltb c 0xFDF0 (omega arith), lt-ltb 0x10FFFF c h)

-- whole reading's tests of a code point are those of `sound`
pub checked_is : (i c n : ℕ) → checked_at i c n ≡ cond (sound c) (Ok (Some (c, n))) (Err (Forbidden i))
unfolding checked_at sound
checked_is i c n = go (Ok (Some (c, n))) (Err (Forbidden i)) (ltb c 0xD800) (ltb c 0xE000) (ltb c 0xFDD0) (ltb c 0xFDF0) (ltb 0x10FFFF c) (ltb (c % 65536) 0xFFFE)
  where
    go : {A : Type 0} (taken wrong : A) (x1 x2 x3 x4 x5 x6 : Bool)
        → cond x1 taken (cond x2 wrong (cond x3 taken (cond x4 wrong (cond x5 wrong (cond x6 taken wrong)))))
        ≡ cond (cond x1 true (cond x2 false (cond x3 true (cond x4 false (cond x5 false x6))))) taken wrong
    go taken wrong true x2 x3 x4 x5 x6 = refl
    go taken wrong false true x3 x4 x5 x6 = refl
    go taken wrong false false true x4 x5 x6 = refl
    go taken wrong false false false true x5 x6 = refl
    go taken wrong false false false false true x6 = refl
    go taken wrong false false false false false x6 = refl

module _ (t : List ℕ) (i : ℕ) where
  -- what whole reading says of the string whose next character stands at i
  abbrev on : Result (Option (ℕ × ℕ)) (Fault ℕ) → Result ℕ (Fault ℕ)
  on = on_step (string_end t) i

  -- the same tests on both sides
  on_cond : (x : Bool) (a b : Result (Option (ℕ × ℕ)) (Fault ℕ)) {c d : (Result ℕ (Fault ℕ))} → on a ≡ c → on b ≡ d → on (cond x a b) ≡ cond x c d
  on_cond true a b p q = p
  on_cond false a b p q = q

  check_is : (c n : ℕ) → on (checked_at i c n) ≡ check t i c (i + n)
  unfolding check
  check_is c n = rw (checked_is i c n) (on_cond (sound c) (Ok (Some (c, n))) (Err (Forbidden i)) refl refl)

  -- a code point that no string may hold
  unsound : (c n : ℕ) → sound c ≡ false → on (checked_at i c n) ≡ Err (Forbidden i)
  unfolding check
  unsound c n h = check_is c n ∙ rw h

  none : (n : ℕ) → on (checked_at i 0x110000 n) ≡ Err (Forbidden i)
  none n = unsound 0x110000 n (sound_large 0x110000 (omega arith))

  -- ---- raw characters

  two_is : (b : ℕ) → 194 ≤ b → b < 224 → on (checked_at i (seq2 b (tail_at t (i + 1))) 2) ≡ tail_rest t i 0 (b % 32) (i + 1)
  unfolding tail_rest
  two_is b h k =
      let x = tail_at t (i + 1) in
      let e : i + 1 + 1 ≡ i + 2 = omega arith in
      let R : Result ℕ (Fault ℕ) = cond (ltb 63 x) (Err (Forbidden i)) (check t i (b % 32 * 64 + x) (i + 1 + 1)) in
      let w : b % 32 % 65536 ≡ b % 32 = omega arith in
      rw w
      (by_seq2 (λ c. on (checked_at i c 2) ≡ R) b x
      (λ l. none 2 ∙ rw (lt-ltb 63 x l))
      (λ l. absurd (omega arith))
      (λ l m. check_is (b % 32 * 64 + x) 2 ∙ rw (le-ltb 63 x l, e)))

  -- the third byte of three, where the second leaves it open
  third_is : (b : ℕ) → tail_at t (i + 1) ≤ 63 → 32 ≤ b % 16 * 64 + tail_at t (i + 1)
      → on (checked_at i (seq3 b (tail_at t (i + 1)) (tail_at t (i + 2))) 3) ≡ tail_rest t i 0 (b % 16 * 64 + tail_at t (i + 1)) (i + 2)
  unfolding tail_rest
  third_is b h k =
      let x = tail_at t (i + 1) in
      let y = tail_at t (i + 2) in
      let e : i + 2 + 1 ≡ i + 3 = omega arith in
      let R : Result ℕ (Fault ℕ) = cond (ltb 63 y) (Err (Forbidden i)) (check t i ((b % 16 * 64 + x) * 64 + y) (i + 2 + 1)) in
      let s : b % 16 * 4096 + x * 64 + y ≡ (b % 16 * 64 + x) * 64 + y = omega arith in
      let w : (b % 16 * 64 + x) % 65536 ≡ b % 16 * 64 + x = omega arith in
      rw w
      (by_seq3 (λ c. on (checked_at i c 3) ≡ R) b x y
      (λ l. absurd (omega arith))
      (λ l. none 3 ∙ rw (lt-ltb 63 y l))
      (λ l. absurd (omega arith))
      (λ l m o. check_is (b % 16 * 4096 + x * 64 + y) 3 ∙ rw (s, le-ltb 63 y m, e)))

  -- it doesn't matter where the second makes it too short, or a surrogate
  third_bad : (b : ℕ) → (b % 16 * 64 + tail_at t (i + 1) < 32) ⊎ ((864 ≤ b % 16 * 64 + tail_at t (i + 1)) × (b % 16 * 64 + tail_at t (i + 1) < 896))
      → on (checked_at i (seq3 b (tail_at t (i + 1)) (tail_at t (i + 2))) 3) ≡ Err (Forbidden i)
  third_bad b o =
      let x = tail_at t (i + 1) in
      let y = tail_at t (i + 2) in
      by_seq3 (λ c. on (checked_at i c 3) ≡ Err (Forbidden i)) b x y (λ l. none 3) (λ l. none 3) (λ l. none 3)
      (λ l m k. unsound (b % 16 * 4096 + x * 64 + y) 3
      (⊎_elim (λ (s : b % 16 * 64 + x < 32). absurd (omega arith))
      (λ (s : (864 ≤ b % 16 * 64 + x) × (b % 16 * 64 + x < 896)). sound_surrogate (b % 16 * 4096 + x * 64 + y) (omega arith) (omega arith)) o))

  three_is : (b : ℕ) → on (checked_at i (seq3 b (tail_at t (i + 1)) (tail_at t (i + 2))) 3) ≡ rest3 t i (b % 16) (i + 1)
  unfolding rest3 after3
  three_is b =
      let x = tail_at t (i + 1) in
      let y = tail_at t (i + 2) in
      let c : ℕ = b % 16 * 64 + x in
      let e : i + 1 + 1 ≡ i + 2 = omega arith in
      let P : Result ℕ (Fault ℕ) → Type 0 = λ r. on (checked_at i (seq3 b x y) 3) ≡ r in
      let w : b % 16 % 65536 ≡ b % 16 = omega arith in
      rw (e, w)
      (if_less P 63 x
      (λ l. by_seq3 (λ c. on (checked_at i c 3) ≡ Err (Forbidden i)) b x y (λ m. none 3) (λ m. none 3) (λ m. none 3) (λ m n o. absurd (omega arith)))
      (λ l. if_less P c 32 (λ m. third_bad b (inl m))
      (λ m. if_less P c 864 (λ n. third_is b l m)
      (λ n. if_less P c 896 (λ o. third_bad b (inr (n, o))) (λ o. third_is b l m)))))

  -- the third and fourth bytes of four
  fourth_is : (b : ℕ) → tail_at t (i + 1) ≤ 63 → 16 ≤ b % 8 * 64 + tail_at t (i + 1)
      → on (checked_at i (seq4 b (tail_at t (i + 1)) (tail_at t (i + 2)) (tail_at t (i + 3))) 4) ≡ tail_rest t i 1 (b % 8 * 64 + tail_at t (i + 1)) (i + 2)
  unfolding tail_rest
  fourth_is b h k =
      let x = tail_at t (i + 1) in
      let y = tail_at t (i + 2) in
      let z = tail_at t (i + 3) in
      let e : i + 2 + 1 ≡ i + 3 = omega arith in
      let f : i + 3 + 1 ≡ i + 4 = omega arith in
      let s : b % 8 * 262144 + x * 4096 + y * 64 + z ≡ ((b % 8 * 64 + x) * 64 + y) * 64 + z = omega arith in
      let P : Result ℕ (Fault ℕ) → Type 0 = λ r. on (checked_at i (seq4 b x y z) 4) ≡ r in
      let w : (b % 8 * 64 + x) % 65536 ≡ b % 8 * 64 + x = omega arith in
      rw (e, f, w)
      (if_less P 63 y
      (λ l. by_seq4 (λ c. on (checked_at i c 4) ≡ Err (Forbidden i)) b x y z (λ m. none 4) (λ m. none 4) (λ m. none 4) (λ m. none 4) (λ m n o p. absurd (omega arith)))
      (λ l. if_less P 63 z
      (λ m. by_seq4 (λ c. on (checked_at i c 4) ≡ Err (Forbidden i)) b x y z (λ m. none 4) (λ m. none 4) (λ m. none 4) (λ m. none 4) (λ n o p q. absurd (omega arith)))
      (λ m. let v : ((b % 8 * 64 + x) * 64 + y) % 65536 ≡ (b % 8 * 64 + x) * 64 + y = omega arith in rw v
      (by_seq4 (λ c. on (checked_at i c 4) ≡ check t i (((b % 8 * 64 + x) * 64 + y) * 64 + z) (i + 4)) b x y z
      (λ n. absurd (omega arith)) (λ n. absurd (omega arith)) (λ n. absurd (omega arith)) (λ n. absurd (omega arith))
      (λ n o p q. rw s (check_is (((b % 8 * 64 + x) * 64 + y) * 64 + z) 4))))))

  fourth_bad : (b : ℕ) → (b % 8 * 64 + tail_at t (i + 1) < 16) ⊎ (272 ≤ b % 8 * 64 + tail_at t (i + 1))
      → on (checked_at i (seq4 b (tail_at t (i + 1)) (tail_at t (i + 2)) (tail_at t (i + 3))) 4) ≡ Err (Forbidden i)
  fourth_bad b o =
      let x = tail_at t (i + 1) in
      let y = tail_at t (i + 2) in
      let z = tail_at t (i + 3) in
      by_seq4 (λ c. on (checked_at i c 4) ≡ Err (Forbidden i)) b x y z (λ l. none 4) (λ l. none 4) (λ l. none 4) (λ l. none 4)
      (λ l m k n. unsound (b % 8 * 262144 + x * 4096 + y * 64 + z) 4
      (⊎_elim (λ (s : b % 8 * 64 + x < 16). absurd (omega arith))
      (λ (s : 272 ≤ b % 8 * 64 + x). sound_large (b % 8 * 262144 + x * 4096 + y * 64 + z) (omega arith)) o))

  four_is : (b : ℕ) → on (checked_at i (seq4 b (tail_at t (i + 1)) (tail_at t (i + 2)) (tail_at t (i + 3))) 4) ≡ rest4 t i (b % 8) (i + 1)
  unfolding rest4 after4
  four_is b =
      let x = tail_at t (i + 1) in
      let y = tail_at t (i + 2) in
      let z = tail_at t (i + 3) in
      let c : ℕ = b % 8 * 64 + x in
      let e : i + 1 + 1 ≡ i + 2 = omega arith in
      let P : Result ℕ (Fault ℕ) → Type 0 = λ r. on (checked_at i (seq4 b x y z) 4) ≡ r in
      let w : b % 8 % 65536 ≡ b % 8 = omega arith in
      rw (e, w)
      (if_less P 63 x
      (λ l. by_seq4 (λ c. on (checked_at i c 4) ≡ Err (Forbidden i)) b x y z (λ m. none 4) (λ m. none 4) (λ m. none 4) (λ m. none 4) (λ m n o p. absurd (omega arith)))
      (λ l. if_less P c 16 (λ m. fourth_bad b (inl m))
      (λ m. if_less P c 272 (λ n. fourth_is b l m) (λ n. fourth_bad b (inr n)))))

  -- the first byte
  raw_is : (b : ℕ) → 128 ≤ b → on (raw_at t i b) ≡ moved t i (lead_move i b)
  unfolding raw_at lead_move string_rest
  raw_is b h =
      let x = tail_at t (i + 1) in
      let y = tail_at t (i + 2) in
      let z = tail_at t (i + 3) in
      let two : Result (Option (ℕ × ℕ)) (Fault ℕ) = checked_at i (seq2 b x) 2 in
      let three : Result (Option (ℕ × ℕ)) (Fault ℕ) = checked_at i (seq3 b x y) 3 in
      let four : Result (Option (ℕ × ℕ)) (Fault ℕ) = checked_at i (seq4 b x y z) 4 in
      let S : Result (Option (ℕ × ℕ)) (Fault ℕ) = cond (ltb b 192) (Err (Forbidden i)) (cond (ltb b 224) two (cond (ltb b 240) three (cond (ltb b 248) four (Err (Forbidden i))))) in
      let P : Result (Option Inner) (Fault ℕ) → Type 0 = λ m. on S ≡ moved t i m in
      let Q : Result (Option (ℕ × ℕ)) (Fault ℕ) → Type 0 = λ s. on s ≡ Err (Forbidden i) in
      if_less P b 194
      (λ l. if_less Q b 192 (λ m. refl)
      (λ m. if_less Q b 224 (λ n. by_seq2 (λ c. on (checked_at i c 2) ≡ Err (Forbidden i)) b x (λ o. none 2) (λ o. none 2) (λ o p. absurd (omega arith))) (λ n. absurd (omega arith))))
      (λ l. if_less P b 224 (λ m. rw (le-ltb b 192 (omega arith), lt-ltb b 224 m) (two_is b l m))
      (λ m. if_less P b 240 (λ n. rw (le-ltb b 192 (omega arith), le-ltb b 224 m, lt-ltb b 240 n) (three_is b))
      (λ n. if_less P b 245 (λ o. rw (le-ltb b 192 (omega arith), le-ltb b 224 m, le-ltb b 240 n, lt-ltb b 248 (omega arith)) (four_is b))
      (λ o. rw (le-ltb b 192 (omega arith), le-ltb b 224 m, le-ltb b 240 n)
      (if_less Q b 248 (λ p. fourth_bad b (inr (omega arith))) (λ p. refl))))))

  -- ---- escapes

  -- four digits: the first that lacks one, or their value
  pub by_hex : (P : Result ℕ ℕ → Type 0) (j : ℕ) → ((p : ℕ) → P (Err p))
      → ((v : ℕ) → digit_at t j ≤ 15 → digit_at t (j + 1) ≤ 15 → digit_at t (j + 2) ≤ 15 → digit_at t (j + 3) ≤ 15
      → v ≡ digit_at t j * 4096 + digit_at t (j + 1) * 256 + digit_at t (j + 2) * 16 + digit_at t (j + 3) → P (Ok v))
      → P (hex4_at t j)
  unfolding hex4_at hex4_of digit_at
  by_hex P j lacks good =
      let a = digit_at t j in
      let b = digit_at t (j + 1) in
      let c = digit_at t (j + 2) in
      let d = digit_at t (j + 3) in
      let la = digit_most (byte_at t j) in
      let lb = digit_most (byte_at t (j + 1)) in
      let lc = digit_most (byte_at t (j + 2)) in
      let ld = digit_most (byte_at t (j + 3)) in
      if_equal P a 16 (λ e. lacks j)
      (λ na. if_equal P b 16 (λ e. lacks (j + 1))
      (λ nb. if_equal P c 16 (λ e. lacks (j + 2))
      (λ nc. if_equal P d 16 (λ e. lacks (j + 3))
      (λ nd. let ka : a ≤ 15 = omega arith in let kb : b ≤ 15 = omega arith in let kc : c ≤ 15 = omega arith in let kd : d ≤ 15 = omega arith in
      good _ ka kb kc kd (omega arith)))))

  hex_good : (j : ℕ) → digit_at t j ≤ 15 → digit_at t (j + 1) ≤ 15 → digit_at t (j + 2) ≤ 15 → digit_at t (j + 3) ≤ 15
      → hex4_at t j ≡ Ok (digit_at t j * 4096 + digit_at t (j + 1) * 256 + digit_at t (j + 2) * 16 + digit_at t (j + 3))
  unfolding hex4_at hex4_of
  hex_good j ka kb kc kd =
      let a = digit_at t j in
      let b = digit_at t (j + 1) in
      let c = digit_at t (j + 2) in
      let d = digit_at t (j + 3) in
      let s : a % 16 * 4096 + b % 16 * 256 + c % 16 * 16 + d % 16 ≡ a * 4096 + b * 256 + c * 16 + d = omega arith in
      rw (ne_eqb a 16 (λ e. omega arith), ne_eqb b 16 (λ e. omega arith), ne_eqb c 16 (λ e. omega arith), ne_eqb d 16 (λ e. omega arith), s)

  digit_good : (j : ℕ) → (digit_at t j ≡ 16 → ⊥) → digit_at t j ≤ 15
  unfolding digit_at
  digit_good j h = let l = digit_most (byte_at t j) in omega arith

  -- the follower of a high surrogate escape, from its first digit on
  low_bad : (high j : ℕ) → ((v : ℕ) → digit_at t j ≤ 15 → digit_at t (j + 1) ≤ 15 → digit_at t (j + 2) ≤ 15 → digit_at t (j + 3) ≤ 15
      → v ≡ digit_at t j * 4096 + digit_at t (j + 1) * 256 + digit_at t (j + 2) * 16 + digit_at t (j + 3) → (v < 0xDC00) ⊎ (0xE000 ≤ v))
      → on (low_at i high (hex4_at t j)) ≡ Err (Forbidden i)
  unfolding low_at
  low_bad high j out =
      by_hex (λ h. on (low_at i high h) ≡ Err (Forbidden i)) j (λ p. refl)
      (λ v ka kb kc kd e. ⊎_elim (λ (l : v < 0xDC00). rw (lt-ltb v 0xDC00 l)) (λ (l : 0xE000 ≤ v). rw (le-ltb v 0xDC00 (omega arith), le-ltb v 0xE000 l)) (out v ka kb kc kd e))

  low_is : (high j : ℕ) → j + 4 ≡ i + 12 → on (low_at i high (hex4_at t j)) ≡ low1_rest t i high j
  unfolding low1_rest low2_rest low3_rest low4_rest low_at
  low_is high j place =
      let a = digit_at t j in
      let b = digit_at t (j + 1) in
      let c = digit_at t (j + 2) in
      let d = digit_at t (j + 3) in
      let e2 : j + 1 + 1 ≡ j + 2 = omega arith in
      let e3 : j + 2 + 1 ≡ j + 3 = omega arith in
      let e4 : j + 3 + 1 ≡ i + 12 = omega arith in
      let P : Result ℕ (Fault ℕ) → Type 0 = λ r. on (low_at i high (hex4_at t j)) ≡ r in
      rw (e2, e3, e4)
      (if_equal P a 13
      (λ ea. if_less P b 12 (λ l. low_bad high j (λ v ka kb kc kd e. inl (omega arith)))
      (λ l. if_equal P b 16 (λ eb. low_bad high j (λ v ka kb kc kd e. absurd (omega arith)))
      (λ nb. if_equal P c 16 (λ ec. low_bad high j (λ v ka kb kc kd e. absurd (omega arith)))
      (λ nc. if_equal P d 16 (λ ed. low_bad high j (λ v ka kb kc kd e. absurd (omega arith)))
      (λ nd.
      let v : ℕ = a * 4096 + b * 256 + c * 16 + d in
      let kb = digit_good (j + 1) nb in
      let kc = digit_good (j + 2) nc in
      let kd = digit_good (j + 3) nd in
      let r : v % 1024 ≡ ((b - 12) * 16 + c) * 16 + d = omega arith in
      let w : (b - 12) % 64 ≡ b - 12 = omega arith in
      let u : ((b - 12) * 16 + c) % 64 ≡ (b - 12) * 16 + c = omega arith in
      rw (w, u, hex_good j (omega arith) kb kc kd, le-ltb v 0xDC00 (omega arith), lt-ltb v 0xE000 (omega arith), r) (check_is (paired high (((b - 12) * 16 + c) * 16 + d)) 12))))))
      (λ na. low_bad high j (λ v ka kb kc kd e. elim (dec_le 14 a) [
        | yes l ↦ inr (omega arith)
        | no l ↦ inl (omega arith)
      ])))

  pair_is : (high : ℕ) → on (pair_at t i high) ≡ pair_rest t i high (i + 6)
  unfolding pair_at pair_rest pair_uRest
  pair_is high =
      let e7 : i + 6 + 1 ≡ i + 7 = omega arith in
      let e8 : i + 7 + 1 ≡ i + 8 = omega arith in
      let low : Result (Option (ℕ × ℕ)) (Fault ℕ) = low_at i high (hex4_at t (i + 8)) in
      rw (e7, e8)
      (on_cond (eqb (byte_at t (i + 6)) 92) (cond (eqb (byte_at t (i + 7)) 117) low (Err (Forbidden i))) (Err (Forbidden i))
      (on_cond (eqb (byte_at t (i + 7)) 117) low (Err (Forbidden i)) (low_is high (i + 8) (omega arith)) refl)
      refl)

  unit_is : (u : ℕ) → on (unit_at t i u) ≡ unit_rest t i u (i + 6)
  unfolding unit_at unit_rest
  unit_is u =
      on_cond (ltb u 0xD800) (checked_at i u 6) (cond (ltb u 0xDC00) (pair_at t i u) (checked_at i u 6)) (check_is u 6)
      (on_cond (ltb u 0xDC00) (pair_at t i u) (checked_at i u 6) (pair_is u) (check_is u 6))

  hex_is : on (on_hex t i (hex4_at t (i + 2))) ≡ hex_rest t i 3 0 (i + 2)
  unfolding on_hex hex4_at hex4_of hex_rest
  hex_is =
      let a = digit_at t (i + 2) in
      let b = digit_at t (i + 2 + 1) in
      let c = digit_at t (i + 2 + 2) in
      let d = digit_at t (i + 2 + 3) in
      let e2 : i + 2 + 1 + 1 ≡ i + 2 + 2 = omega arith in
      let e3 : i + 2 + 2 + 1 ≡ i + 2 + 3 = omega arith in
      let e4 : i + 2 + 3 + 1 ≡ i + 6 = omega arith in
      let P : Result ℕ (Fault ℕ) → Type 0 = λ r. on (on_hex t i (hex4_at t (i + 2))) ≡ r in
      rw (e2, e3, e4)
      (if_equal P a 16 (λ h. rw (eq-eqb a 16 h))
      (λ na. if_equal P b 16 (λ h. rw (ne_eqb a 16 na, eq-eqb b 16 h))
      (λ nb. if_equal P c 16 (λ h. rw (ne_eqb a 16 na, ne_eqb b 16 nb, eq-eqb c 16 h))
      (λ nc. if_equal P d 16 (λ h. rw (ne_eqb a 16 na, ne_eqb b 16 nb, ne_eqb c 16 nc, eq-eqb d 16 h))
      (λ nd.
      let ka = digit_good (i + 2) na in
      let kb = digit_good (i + 2 + 1) nb in
      let kc = digit_good (i + 2 + 2) nc in
      let kd = digit_good (i + 2 + 3) nd in
      let s : (((0 % 4096 * 16 + a) % 4096 * 16 + b) % 4096 * 16 + c) % 4096 * 16 + d ≡ a * 4096 + b * 256 + c * 16 + d = omega arith in
      rw (s, hex_good (i + 2) ka kb kc kd)
      (unit_is (a * 4096 + b * 256 + c * 16 + d)))))))

  escape_is : on (escape_at t i) ≡ escape_rest t i (i + 1)
  unfolding escape_at escape_rest
  escape_is =
      let e : i + 1 + 1 ≡ i + 2 = omega arith in
      let b = byte_at t (i + 1) in
      let short : Result (Option (ℕ × ℕ)) (Fault ℕ) = cond (eqb (letter_of b) 0) (Err (Malformed (i + 1))) (Ok (Some (letter_of b, 2))) in
      rw e
      (on_cond (eqb b 117) (on_hex t i (hex4_at t (i + 2))) short hex_is
      (on_cond (eqb (letter_of b) 0) (Err (Malformed (i + 1))) (Ok (Some (letter_of b, 2))) refl refl))

  -- between two characters, whichever comes
  plain_step : string_end t i ≡ moved t i (move_of i Plain (byte_at t i))
  unfolding step_by move_of string_rest
  plain_step =
      let b = byte_at t i in
      let S : Result (Option (ℕ × ℕ)) (Fault ℕ) = step_at t i in
      let P : Result (Option Inner) (Fault ℕ) → Type 0 = λ m. on S ≡ moved t i m in
      end_step t i ∙
      if_equal P b 34 (λ h. rw (eq-eqb b 34 h))
      (λ n1. if_equal P b 92 (λ h. rw (ne_eqb b 34 n1, eq-eqb b 92 h) escape_is)
      (λ n2. if_less P b 32 (λ h. rw (ne_eqb b 34 n1, ne_eqb b 92 n2, lt-ltb b 32 h))
      (λ n3. if_less P b 128 (λ h. rw (ne_eqb b 34 n1, ne_eqb b 92 n2, le-ltb b 32 n3, lt-ltb b 128 h))
      (λ n4. if_less P b 256 (λ h. rw (ne_eqb b 34 n1, ne_eqb b 92 n2, le-ltb b 32 n3, le-ltb b 128 n4, lt-ltb b 256 h) (raw_is b n4))
      (λ n5. rw (ne_eqb b 34 n1, ne_eqb b 92 n2, le-ltb b 32 n3, le-ltb b 128 n4, le-ltb b 256 n5))))))

  -- each place inside a string, one byte further
  pub string_step : (s : Inner) → string_rest t s i ≡ moved t i (move_of i s (byte_at t i))
  unfolding string_rest move_of escape_rest pair_rest pair_uRest low1_rest low2_rest low3_rest low4_rest rest3 rest4 digit_at tail_at
  string_step Plain = plain_step
  string_step (Escape from) =
      let b = byte_at t i in
      moved_cond t i (eqb b 117) (Ok (Some (Four from 3 0))) (cond (eqb (letter_of b) 0) (Err (Malformed i)) (Ok (Some Plain))) refl (moved_cond t i (eqb (letter_of b) 0) (Err (Malformed i)) (Ok (Some Plain)) refl refl)
  string_step (Four from left v) = hex_step t i from left v
  string_step (Pair from high) = moved_cond t i (eqb (byte_at t i) 92) (Ok (Some (PairU from high))) (Err (Forbidden from)) refl refl
  string_step (PairU from high) = moved_cond t i (eqb (byte_at t i) 117) (Ok (Some (Low1 from high))) (Err (Forbidden from)) refl refl
  string_step (Low1 from high) = moved_cond t i (eqb (digit_at t i) 13) (Ok (Some (Low2 from high))) (Err (Forbidden from)) refl refl
  string_step (Low2 from high) =
      let d = digit_at t i in
      let s : Result (Option Inner) (Fault ℕ) = Ok (Some (Low3 from high (d - 12))) in
      moved_cond t i (ltb d 12) (Err (Forbidden from)) (cond (eqb d 16) (Err (Forbidden from)) s) refl (moved_cond t i (eqb d 16) (Err (Forbidden from)) s refl refl)
  string_step (Low3 from high v) = moved_cond t i (eqb (digit_at t i) 16) (Err (Forbidden from)) (Ok (Some (Low4 from high (v % 64 * 16 + digit_at t i)))) refl refl
  string_step (Low4 from high v) =
      let c : ℕ = paired high (v % 64 * 16 + digit_at t i) in
      moved_cond t i (eqb (digit_at t i) 16) (Err (Forbidden from)) (checked from c) refl (moved_check t i from c)
  string_step (Second3 from c) =
      let d : ℕ = c % 65536 * 64 + tail_at t i in
      moved_cond t i (ltb 63 (tail_at t i)) (Err (Forbidden from)) (move3 from d) refl (moved_3 t i from d)
  string_step (Second4 from c) =
      let d : ℕ = c % 65536 * 64 + tail_at t i in
      moved_cond t i (ltb 63 (tail_at t i)) (Err (Forbidden from)) (move4 from d) refl (moved_4 t i from d)
  string_step (Tails from left c) = tail_step t i from left c
