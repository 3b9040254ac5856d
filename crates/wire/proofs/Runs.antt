-- Runs of bytes that leave the automaton where it is but for its place:
--     spaces-pass                   white space between tokens
--     digits-pass                   digits of a number whose figure they keep
--     chars-pass, key-chars-pass    whole characters of a string, in a value and in a name; `chars_inside` says where they end
-- The bytes of a character lead back between two characters (`char_passes`): the tests of whole reading one after the other (`step_back`).
-- Assumes nothing.
use Rattle.std.specs.Prelude.{Option, Some, None, Result, Ok, Err}
use Rattle.text.specs.declared.Fault.{Fault}
use Rattle.text.specs.declared.Fault.TheVariants.{Malformed, Forbidden}
use mathlib.Core.Path.{◌≡◌, refl, sym, ap, subst, ◌∙◌}
use mathlib.Core.List.{List, [], ◌∷◌}
use mathlib.Core.Bool.{true, true≢false}
use Prim.Native.Nat.{ℕ, zero, suc, ◌+◌, ◌-◌, ◌*◌, ◌%◌, ◌≤◌, ◌<◌}
use native.Mathlib.Nat.{add-zero}
use native.Mathlib.Decide.{dec_le}
use native.Mathlib.Omega.{arith}
use lib.ListN.{length}
use lib.Seq.{slice}
use borrow.Author.Tests.{lt-ltb, le-ltb, eq-eqb, ne_eqb}
use Rattle.laws.proofs.Branches.{if_less, if_equal, if_true}
use Rattle.laws.proofs.Places.{any_default}
use Rattle.laws.proofs.Slices.{slice_more, slice_none}
use Rattle.laws.proofs.Splits.{within}
use Rattle.laws.specs.Each.{Each, none, more}
use Rattle.text.specs.Limits.{Limits}
use Rattle.text.specs.Text.{byte_at}
use Rattle.text.specs.Chars.{letter_of, digit_at, tail_at, checked_at, seq2, seq3, seq4, raw_at, low_at, pair_at, unit_at, on_hex, escape_at, step_by, step_at, Chars, stay, more as char}
use Rattle.text.specs.Tokens.{is_space, is_digit}
use Rattle.text.specs.Tree.{Bracket}
use Rattle.text.proofs.Sequences.{by_seq2, by_seq3, by_seq4}
use Rattle.text.proofs.Spelling.Characters.{char_at, some_bytes}
use Rattle.wire.specs.declared.Figure.{Figure}
use Rattle.wire.specs.declared.Figure.TheVariants.{Whole, Fraction, Digits}
use Rattle.wire.specs.Figures.{turn_of}
use Rattle.wire.specs.Inners.{sound, checked, unit_move, hex_move, tail_move, move3, move4, lead_move, paired, move_of}
use Rattle.wire.specs.declared.Inner.{Inner}
use Rattle.wire.specs.declared.Inner.TheVariants.{Plain, Escape, Four, Pair, PairU, Low1, Low2, Low3, Low4, Second3, Second4, Tails}
use Rattle.wire.specs.Machine.{Spot, value, first, name, colon, after, number, string, key, State, going, after_of, on_turn, on_move, feed, feeds}
use Rattle.wire.proofs.Strings.{sound_surrogate, sound_large, checked_is, by_hex}

-- ---- bytes each of which leaves the automaton where it is

module _ (L : Limits) (n : ℕ) (os : List Bracket) (spot : Spot) (P : ℕ → Type 0)
    (keeps : (at b : ℕ) → P b → feed L (going at n os spot) b ≡ going (at + 1) n os spot) where
  run_pass : (q : List ℕ) → Each P q → (at : ℕ) → feeds L (going at n os spot) q ≡ going (at + length q) n os spot
  unfolding feeds
  run_pass [] none at = rw (add-zero at)
  run_pass (b ∷ q) (more h hs) at =
      let e : at + 1 + length q ≡ at + suc (length q) = omega arith in
      rw (keeps at b h) (run_pass q hs (at + 1) ∙ rw e)

-- places between tokens
pub data Between : Spot → Type 0 where
  at_value : Between value
  at_first : Between first
  at_name : Between name
  at_colon : Between colon
  at_after : Between after

space_keeps : (L : Limits) (n : ℕ) (os : List Bracket) (spot : Spot) → Between spot → (at b : ℕ) → is_space b ≡ true
    → feed L (going at n os spot) b ≡ going (at + 1) n os spot
unfolding feed after_of
space_keeps L n os spot at_value at b e = rw e
space_keeps L n os spot at_first at b e = rw e
space_keeps L n os spot at_name at b e = rw e
space_keeps L n os spot at_colon at b e = rw e
space_keeps L n os spot at_after at b e = rw e

-- white space between tokens
pub spaces_pass : (L : Limits) (n : ℕ) (os : List Bracket) (spot : Spot) → Between spot → (q : List ℕ) → Each (λ b. is_space b ≡ true) q → (at : ℕ)
    → feeds L (going at n os spot) q ≡ going (at + length q) n os spot
spaces_pass L n os spot h = run_pass L n os spot (λ b. is_space b ≡ true) (space_keeps L n os spot h)

-- figures that more digits leave as they are
pub data Run : Figure → Type 0 where
  of_whole : Run Whole
  of_fraction : Run Fraction
  of_exponent : Run Digits

digit_keeps : (L : Limits) (n : ℕ) (os : List Bracket) (f : Figure) → Run f → (at b : ℕ) → is_digit b ≡ true
    → feed L (going at n os (number f)) b ≡ going (at + 1) n os (number f)
unfolding feed on_turn turn_of
digit_keeps L n os f of_whole at b e = rw e
digit_keeps L n os f of_fraction at b e = rw e
digit_keeps L n os f of_exponent at b e = rw e

-- digits of a number, where more of them may follow
pub digits_pass : (L : Limits) (n : ℕ) (os : List Bracket) (f : Figure) → Run f → (q : List ℕ) → Each (λ b. is_digit b ≡ true) q → (at : ℕ)
    → feeds L (going at n os (number f)) q ≡ going (at + length q) n os (number f)
digits_pass L n os f h = run_pass L n os (number f) (λ b. is_digit b ≡ true) (digit_keeps L n os f h)

-- ---- the bytes of a character

-- k bytes of the text t from its place i on lead back between two characters, where the automaton has taken p bytes; i and p count apart, since t may
-- be one piece of many
abbrev Passes : List ℕ → (p i k : ℕ) → Inner → Type 0
Passes t p i zero s = s ≡ Plain
Passes t p i (suc k) s = (r : Inner) × (move_of p s (byte_at t i) ≡ Ok (Some r)) × Passes t (p + 1) (i + 1) k r

-- ---- raw characters

module _ (t : List ℕ) where
  -- the last byte of two, three or four
  last_passes : (p from c i : ℕ) → c < 65536 → tail_at t i ≤ 63 → sound (c * 64 + tail_at t i) ≡ true → Passes t p i 1 (Tails from 0 c)
  unfolding move_of tail_move checked tail_at
  last_passes p from c i h l s =
      let w : c % 65536 ≡ c = omega arith in
      (Plain, rw (w, le-ltb 63 (tail_at t i) l, s), refl)

  -- the last two of four
  tails_pass : (p from c i : ℕ) → c < 1024 → tail_at t i ≤ 63 → tail_at t (i + 1) ≤ 63 → sound ((c * 64 + tail_at t i) * 64 + tail_at t (i + 1)) ≡ true
      → Passes t p i 2 (Tails from 1 c)
  unfolding move_of tail_move tail_at
  tails_pass p from c i h l m s =
      let w : c % 65536 ≡ c = omega arith in
      (Tails from 0 (c * 64 + tail_at t i), rw (w, le-ltb 63 (tail_at t i) l), last_passes (p + 1) from (c * 64 + tail_at t i) (i + 1) (omega arith) m s)

  -- the second of three, where a code point comes of it
  three_on : (from c y : ℕ) → 32 ≤ c → y ≤ 63 → sound (c * 64 + y) ≡ true → move3 from c ≡ Ok (Some (Tails from 0 c))
  unfolding move3
  three_on from c y h l s =
      let P : Result (Option Inner) (Fault ℕ) → Type 0 = λ m. m ≡ Ok (Some (Tails from 0 c)) in
      rw (le-ltb c 32 h)
      (if_less P c 864 (λ k. refl)
      (λ k. if_less P c 896 (λ m. absurd (true≢false (sym s ∙ sound_surrogate (c * 64 + y) (omega arith) (omega arith)))) (λ m. refl)))

  -- the second and third of three
  thirds_pass : (p from c i : ℕ) → c < 16 → tail_at t i ≤ 63 → tail_at t (i + 1) ≤ 63 → 2048 ≤ (c * 64 + tail_at t i) * 64 + tail_at t (i + 1)
      → sound ((c * 64 + tail_at t i) * 64 + tail_at t (i + 1)) ≡ true → Passes t p i 2 (Second3 from c)
  unfolding move_of tail_at
  thirds_pass p from c i h l m k s =
      let x = tail_at t i in
      let w : c % 65536 ≡ c = omega arith in
      let d : ℕ = c * 64 + x in
      (Tails from 0 d, rw (w, le-ltb 63 x l) (three_on from d (tail_at t (i + 1)) (omega arith) m s), last_passes (p + 1) from d (i + 1) (omega arith) m s)

  -- the second, third and fourth of four
  fourths_pass : (p from c i : ℕ) → c < 8 → tail_at t i ≤ 63 → tail_at t (i + 1) ≤ 63 → tail_at t (i + 2) ≤ 63
      → 16 ≤ c * 64 + tail_at t i → c * 64 + tail_at t i < 272
      → sound (((c * 64 + tail_at t i) * 64 + tail_at t (i + 1)) * 64 + tail_at t (i + 2)) ≡ true → Passes t p i 3 (Second4 from c)
  unfolding move_of move4 tail_at
  fourths_pass p from c i h l m o k n s =
      let x = tail_at t i in
      let w : c % 65536 ≡ c = omega arith in
      let d : ℕ = c * 64 + x in
      let e : i + 1 + 1 ≡ i + 2 = omega arith in
      (Tails from 1 d, rw (w, le-ltb 63 x l, le-ltb d 16 k, lt-ltb d 272 n), tails_pass (p + 1) from d (i + 1) (omega arith) m (rw e o) (rw e s))

-- what is shown of every step: where it is a character, its bytes lead back
abbrev Back : List ℕ → (p i : ℕ) → Result (Option (ℕ × ℕ)) (Fault ℕ) → Type 0
Back t p i (Ok None) = Prim.Unit {0}
Back t p i (Ok (Some (code, len))) = Passes t p i len Plain
Back t p i (Err (Malformed q)) = Prim.Unit {0}
Back t p i (Err (Forbidden q)) = Prim.Unit {0}

module _ (t : List ℕ) (p i : ℕ) where
  -- a code point is a character where a string may hold it
  by_check : (c n : ℕ) → (sound c ≡ true → Passes t p i n Plain) → Back t p i (checked_at i c n)
  by_check c n f = rw (checked_is i c n) (if_true (Back t p i) (sound c) f (λ h. tt))

  -- no code point came of the bytes
  none_back : (n : ℕ) → Back t p i (checked_at i 0x110000 n)
  unfolding checked_at
  none_back n = tt

  lead_on : (b : ℕ) → 128 ≤ b → b < 256 → move_of p Plain b ≡ lead_move p b
  unfolding move_of
  lead_on b h k = rw (ne_eqb b 34 (λ e. omega arith), ne_eqb b 92 (λ e. omega arith), le-ltb b 32 (omega arith), le-ltb b 128 h, lt-ltb b 256 k)

  two_back : 192 ≤ byte_at t i → byte_at t i < 224 → Back t p i (checked_at i (seq2 (byte_at t i) (tail_at t (i + 1))) 2)
  unfolding lead_move
  two_back h k =
      let b = byte_at t i in
      let x = tail_at t (i + 1) in
      by_seq2 (λ c. Back t p i (checked_at i c 2)) b x (λ l. none_back 2) (λ l. none_back 2)
      (λ l m. by_check (b % 32 * 64 + x) 2
      (λ s. (
        Tails p 0 (b % 32),
        rw (lead_on b (omega arith) (omega arith), le-ltb b 194 (omega arith), lt-ltb b 224 k),
        last_passes t (p + 1) p (b % 32) (i + 1) (omega arith) l s,
      )))

  three_back : 224 ≤ byte_at t i → byte_at t i < 240 → Back t p i (checked_at i (seq3 (byte_at t i) (tail_at t (i + 1)) (tail_at t (i + 2))) 3)
  unfolding lead_move
  three_back h k =
      let b = byte_at t i in
      let x = tail_at t (i + 1) in
      let y = tail_at t (i + 2) in
      let e : i + 1 + 1 ≡ i + 2 = omega arith in
      let w : b % 16 * 4096 + x * 64 + y ≡ (b % 16 * 64 + x) * 64 + y = omega arith in
      by_seq3 (λ c. Back t p i (checked_at i c 3)) b x y (λ l. none_back 3) (λ l. none_back 3) (λ l. none_back 3)
      (λ l m o. by_check (b % 16 * 4096 + x * 64 + y) 3
      (λ s. (
        Second3 p (b % 16),
        rw (lead_on b (omega arith) (omega arith), le-ltb b 194 (omega arith), le-ltb b 224 h, lt-ltb b 240 k),
        thirds_pass t (p + 1) p (b % 16) (i + 1) (omega arith) l (rw e m) (rw e (omega arith)) (rw (e, ← w) s),
      )))

  four_back : 240 ≤ byte_at t i → byte_at t i < 248
      → Back t p i (checked_at i (seq4 (byte_at t i) (tail_at t (i + 1)) (tail_at t (i + 2)) (tail_at t (i + 3))) 4)
  unfolding lead_move
  four_back h k =
      let b = byte_at t i in
      let x = tail_at t (i + 1) in
      let y = tail_at t (i + 2) in
      let z = tail_at t (i + 3) in
      let e : i + 1 + 1 ≡ i + 2 = omega arith in
      let f : i + 1 + 2 ≡ i + 3 = omega arith in
      let v : ℕ = b % 8 * 262144 + x * 4096 + y * 64 + z in
      let w : v ≡ ((b % 8 * 64 + x) * 64 + y) * 64 + z = omega arith in
      by_seq4 (λ c. Back t p i (checked_at i c 4)) b x y z (λ l. none_back 4) (λ l. none_back 4) (λ l. none_back 4) (λ l. none_back 4)
      (λ l m n o. by_check v 4
      (λ s. elim (dec_le 0x110000 v) [
        | yes q ↦ absurd (true≢false (sym s ∙ sound_large v (omega arith)))
        | no q ↦ (
          Second4 p (b % 8),
          rw (lead_on b (omega arith) (omega arith), le-ltb b 194 (omega arith), le-ltb b 224 (omega arith), le-ltb b 240 h, lt-ltb b 245 (omega arith)),
          fourths_pass t (p + 1) p (b % 8) (i + 1) (omega arith) l (rw e m) (rw f n) (omega arith) (omega arith) (rw (e, f, ← w) s),
        )
      ]))

  raw_back : 128 ≤ byte_at t i → Back t p i (raw_at t i (byte_at t i))
  unfolding raw_at
  raw_back h =
      let b = byte_at t i in
      let P : Result (Option (ℕ × ℕ)) (Fault ℕ) → Type 0 = Back t p i in
      if_less P b 192 (λ l. tt)
      (λ l. if_less P b 224 (λ m. two_back l m)
      (λ m. if_less P b 240 (λ n. three_back m n)
      (λ n. if_less P b 248 (λ o. four_back n o) (λ o. tt))))

-- ---- escapes

module _ (t : List ℕ) where
  -- one digit of a \u escape
  four_on : (p from left v i : ℕ) → digit_at t i ≤ 15 → move_of p (Four from left v) (byte_at t i) ≡ hex_move from left (v % 4096 * 16 + digit_at t i)
  unfolding move_of digit_at
  four_on p from left v i h = rw (ne_eqb (digit_at t i) 16 (λ e. omega arith))

  -- four of them, and what comes of their value
  unit_passes : (p from i k v : ℕ) (r : Inner) → digit_at t i ≤ 15 → digit_at t (i + 1) ≤ 15 → digit_at t (i + 2) ≤ 15 → digit_at t (i + 3) ≤ 15
      → v ≡ digit_at t i * 4096 + digit_at t (i + 1) * 256 + digit_at t (i + 2) * 16 + digit_at t (i + 3) → unit_move from v ≡ Ok (Some r)
      → ((q : ℕ) → Passes t q (i + 4) k r) → Passes t p i (suc (suc (suc (suc k)))) (Four from 3 0)
  unfolding hex_move
  unit_passes p from i k v r ka kb kc kd e m rest =
      let a = digit_at t i in
      let b = digit_at t (i + 1) in
      let c = digit_at t (i + 2) in
      let d = digit_at t (i + 3) in
      let e2 : i + 1 + 1 ≡ i + 2 = omega arith in
      let e3 : i + 2 + 1 ≡ i + 3 = omega arith in
      let e4 : i + 3 + 1 ≡ i + 4 = omega arith in
      let a1 : ℕ = 0 % 4096 * 16 + a in
      let b1 : ℕ = a1 % 4096 * 16 + b in
      let c1 : ℕ = b1 % 4096 * 16 + c in
      let s : c1 % 4096 * 16 + d ≡ v = omega arith in
      let fourth : Passes t (p + 1 + 1 + 1) (i + 3) (suc k) (Four from 0 c1) = (r, four_on (p + 1 + 1 + 1) from 0 c1 (i + 3) kd ∙ rw s m, rw e4 (rest (p + 1 + 1 + 1 + 1))) in
      let third : Passes t (p + 1 + 1) (i + 2) (suc (suc k)) (Four from 1 b1) = (Four from 0 c1, four_on (p + 1 + 1) from 1 b1 (i + 2) kc, rw e3 fourth) in
      let second : Passes t (p + 1) (i + 1) (suc (suc (suc k))) (Four from 2 a1) = (Four from 1 b1, four_on (p + 1) from 2 a1 (i + 1) kb, rw e2 third) in
      (Four from 2 a1, four_on p from 3 0 i ka, second)

  -- the four digits of a low surrogate behind a high one
  low_passes : (p from high i v : ℕ) → digit_at t i ≤ 15 → digit_at t (i + 1) ≤ 15 → digit_at t (i + 2) ≤ 15 → digit_at t (i + 3) ≤ 15
      → v ≡ digit_at t i * 4096 + digit_at t (i + 1) * 256 + digit_at t (i + 2) * 16 + digit_at t (i + 3) → 0xDC00 ≤ v → v < 0xE000
      → sound (paired high (v % 1024)) ≡ true → Passes t p i 4 (Low1 from high)
  unfolding move_of digit_at checked
  low_passes p from high i v ka kb kc kd e l m s =
      let a = digit_at t i in
      let b = digit_at t (i + 1) in
      let c = digit_at t (i + 2) in
      let d = digit_at t (i + 3) in
      let e2 : i + 1 + 1 ≡ i + 2 = omega arith in
      let e3 : i + 2 + 1 ≡ i + 3 = omega arith in
      let b1 : ℕ = b - 12 in
      let c1 : ℕ = b1 % 64 * 16 + c in
      let w : c1 % 64 * 16 + d ≡ v % 1024 = omega arith in
      let up : a ≤ 13 = omega arith in
      let down : 13 ≤ a = omega arith in
      let fourth : Passes t (p + 1 + 1 + 1) (i + 3) 1 (Low4 from high c1) = (Plain, rw (ne_eqb d 16 (λ e. omega arith), w, s), refl) in
      let third : Passes t (p + 1 + 1) (i + 2) 2 (Low3 from high b1) = (Low4 from high c1, rw (ne_eqb c 16 (λ e. omega arith)), rw e3 fourth) in
      let second : Passes t (p + 1) (i + 1) 3 (Low2 from high) = (Low3 from high b1, rw (le-ltb b 12 (omega arith), ne_eqb b 16 (λ e. omega arith)), rw e2 third) in
      (Low2 from high, rw (eq-eqb a 13 (omega arith)), second)

module _ (t : List ℕ) (p i : ℕ) where
  -- a high surrogate escape, by how its six bytes lead on
  pair_back : (high : ℕ) → (((q : ℕ) → Passes t q (i + 6) 6 (Pair p high)) → Passes t p i 12 Plain) → Back t p i (pair_at t i high)
  unfolding pair_at low_at move_of
  pair_back high lead =
      let P : Result (Option (ℕ × ℕ)) (Fault ℕ) → Type 0 = Back t p i in
      let e7 : i + 6 + 1 ≡ i + 7 = omega arith in
      let e8 : i + 7 + 1 ≡ i + 8 = omega arith in
      if_equal P (byte_at t (i + 6)) 92
      (λ h. if_equal P (byte_at t (i + 7)) 117
      (λ k. by_hex t i (λ x. P (low_at i high x)) (i + 8) (λ q. tt)
      (λ v ka kb kc kd e. if_less P v 0xDC00 (λ l. tt)
      (λ l. if_less P v 0xE000
      (λ m. by_check t p i (paired high (v % 1024)) 12
      (λ s. lead (λ q. (PairU p high, rw h, rw e7 (Low1 p high, rw k, rw e8 (low_passes t (q + 1 + 1) p high (i + 8) v ka kb kc kd e l m s))))))
      (λ m. tt))))
      (λ k. tt))
      (λ h. tt)

  -- an escape of four digits, by how its six bytes lead on
  unit_back : (v : ℕ)
      → ((k : ℕ) (r : Inner) → unit_move p v ≡ Ok (Some r) → ((q : ℕ) → Passes t q (i + 6) k r) → Passes t p i (suc (suc (suc (suc (suc (suc k)))))) Plain)
      → Back t p i (unit_at t i v)
  unfolding unit_at unit_move checked
  unit_back v lead =
      let P : Result (Option (ℕ × ℕ)) (Fault ℕ) → Type 0 = Back t p i in
      if_less P v 0xD800
      (λ l. by_check t p i v 6 (λ s. lead 0 Plain (rw (lt-ltb v 0xD800 l, s)) (λ q. refl)))
      (λ l. if_less P v 0xDC00
      (λ m. pair_back v (lead 6 (Pair p v) (rw (le-ltb v 0xD800 l, lt-ltb v 0xDC00 m))))
      (λ m. by_check t p i v 6 (λ s. lead 0 Plain (rw (le-ltb v 0xD800 l, le-ltb v 0xDC00 m, s)) (λ q. refl))))

  escape_back : byte_at t i ≡ 92 → Back t p i (escape_at t i)
  unfolding escape_at on_hex move_of
  escape_back h =
      let P : Result (Option (ℕ × ℕ)) (Fault ℕ) → Type 0 = Back t p i in
      let b = byte_at t (i + 1) in
      let e2 : i + 1 + 1 ≡ i + 2 = omega arith in
      let e6 : i + 2 + 4 ≡ i + 6 = omega arith in
      let escape : move_of p Plain (byte_at t i) ≡ Ok (Some (Escape p)) = rw h in
      if_equal P b 117
      (λ k. by_hex t i (λ x. P (on_hex t i x)) (i + 2) (λ q. tt)
      (λ v ka kb kc kd e. unit_back v
      (λ j r m rest. (Escape p, escape, (Four p 3 0, rw k, rw e2 (unit_passes t (p + 1 + 1) p (i + 2) j v r ka kb kc kd e m (rw e6 rest)))))))
      (λ k. if_equal P (letter_of b) 0 (λ l. tt) (λ l. (Escape p, escape, (Plain, rw (ne_eqb b 117 k, ne_eqb (letter_of b) 0 l), refl))))

  step_back : Back t p i (step_at t i)
  unfolding step_by move_of
  step_back =
      let P : Result (Option (ℕ × ℕ)) (Fault ℕ) → Type 0 = Back t p i in
      let b = byte_at t i in
      if_equal P b 34 (λ h. tt)
      (λ n1. if_equal P b 92 (λ h. escape_back h)
      (λ n2. if_less P b 32 (λ h. tt)
      (λ n3. if_less P b 128 (λ h. (Plain, rw (ne_eqb b 34 n1, ne_eqb b 92 n2, le-ltb b 32 n3, lt-ltb b 128 h), refl))
      (λ n4. if_less P b 256 (λ h. raw_back t p i n4) (λ h. tt)))))

  -- the bytes of a character lead back between two characters
  char_passes : {code len : ℕ} → step_at t i ≡ Ok (Some (code, len)) → Passes t p i len Plain
  char_passes e = subst (Back t p i) e step_back

-- ---- runs of characters

-- a character's bytes are inside the text
char_within : (t : List ℕ) (i : ℕ) {code len : ℕ} → step_at t i ≡ Ok (Some (code, len)) → i + len ≤ length t
char_within t i e =
    let a = char_at t i e in
    rw a.size at (within t i a.bytes a.rest a.split (some_bytes a.spelled))

-- whole characters end where they start or later, inside the text
pub chars_inside : (t : List ℕ) {i j : ℕ} → Chars t i j → i ≤ length t → (i ≤ j) × (j ≤ length t)
chars_inside t stay h = (omega arith, h)
chars_inside t (char {i = i} e c) h =
    let r = chars_inside t c (char_within t i e) in
    (omega (arith, r.0), r.1)

-- in a string that is a value or a name: `spot` is its place in the grammar, and `behind` what its closing quote leads to
module _ (L : Limits) (n : ℕ) (os : List Bracket) (spot : Inner → Spot) (behind : Spot)
    (fed : (at : ℕ) (s : Inner) (b : ℕ) → feed L (going at n os (spot s)) b ≡ on_move at n os spot behind (move_of at s b)) (t : List ℕ) where
  -- k bytes that lead back, and then the others
  passed : (p i k : ℕ) (s : Inner) → Passes t p i k s → (j : ℕ) → i + k ≤ j → j ≤ length t
      → feeds L (going p n os (spot s)) (slice i j t) ≡ feeds L (going (p + k) n os (spot Plain)) (slice (i + k) j t)
  unfolding feeds on_move
  passed p i zero s c j h l = rw (add-zero p, add-zero i, c)
  passed p i (suc k) s (r, m, c) j h l =
      let e : p + 1 + k ≡ p + suc k = omega arith in
      let f : i + 1 + k ≡ i + suc k = omega arith in
      rw (slice_more i j t (omega arith) l, any_default 0 256 t i (omega arith))
      (ap (λ (x : State). feeds L x (slice (i + 1) j t)) (fed p s (byte_at t i) ∙ rw m) ∙ passed (p + 1) (i + 1) k r c j (omega arith) l ∙ rw (e, f))

  string_pass : {i j : ℕ} → Chars t i j → (at : ℕ) → feeds L (going at n os (spot Plain)) (slice i j t) ≡ going (at + (j - i)) n os (spot Plain)
  unfolding feeds
  string_pass (stay {i = i}) at =
      let e : at + (i - i) ≡ at = omega arith in
      rw (slice_none i i t (omega arith) (omega arith), e)
  string_pass (char {i = i} {j = j} {len = len} e c) at =
      let inside = chars_inside t c (char_within t i e) in
      let w : at + len + (j - (i + len)) ≡ at + (j - i) = omega (arith, inside.0) in
      passed at i len Plain (char_passes t at i e) j inside.0 inside.1 ∙ string_pass c (at + len) ∙ rw w

-- whole characters of a string that is a value
pub chars_pass : (L : Limits) (n : ℕ) (os : List Bracket) (t : List ℕ) {i j : ℕ} → Chars t i j → (at : ℕ)
    → feeds L (going at n os (string Plain)) (slice i j t) ≡ going (at + (j - i)) n os (string Plain)
unfolding feed
chars_pass L n os t = string_pass L n os (λ x. string x) after (λ at s b. refl) t

-- whole characters of a name
pub key_chars_pass : (L : Limits) (n : ℕ) (os : List Bracket) (t : List ℕ) {i j : ℕ} → Chars t i j → (at : ℕ)
    → feeds L (going at n os (key Plain)) (slice i j t) ≡ going (at + (j - i)) n os (key Plain)
unfolding feed
key_chars_pass L n os t = string_pass L n os (λ x. key x) colon (λ at s b. refl) t
