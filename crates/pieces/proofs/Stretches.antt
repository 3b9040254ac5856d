-- Bytes that leave a state where it is, or inside its number (`Leads`, specs/Passing.antt):
--     lead-none, lead-on     none; and one run behind another
--     lead-spaces            white space between tokens
--     lead-digits            digits of a number
--     lead-turn              one byte of a number
--     lead-chars             whole characters of a string
-- Assumes nothing.
use mathlib.Core.Path.{◌≡◌, refl, sym, ap, ◌∙◌}
use mathlib.Core.Logic.{◌⊎◌, inl, inr}
use mathlib.Core.Bool.{Bool, true, false}
use mathlib.Core.List.{List}
use Prim.Native.Nat.{ℕ, zero, suc, ◌+◌, ◌-◌, ◌≤◌, ◌<◌}
use native.Mathlib.Decide.{dec_le}
use native.Mathlib.Omega.{arith}
use lib.ListN.{length, get_or, get_or-eq_default}
use lib.Seq.{slice, length-slice}
use borrow.Author.Tests.{lt-ltb, le-ltb, ne_eqb}
use Rattle.laws.specs.Each.{Each, none, more}
use Rattle.laws.proofs.Places.{any_default}
use Rattle.laws.proofs.Slices.{slice_more, slice_none, slice_split}
use Rattle.text.specs.Limits.{base}
use Rattle.text.specs.Text.{byte_at}
use Rattle.text.specs.Chars.{Chars}
use Rattle.text.specs.Tokens.{run_end, is_space, is_digit, skip, digits_end}
use Rattle.text.specs.Tree.{Bracket}
use Rattle.text.proofs.TokenEnds.{run_on_lem, run_end_lem, run_span}
use Rattle.wire.specs.declared.Figure.{Figure}
use Rattle.wire.specs.declared.Figure.TheVariants.{Minus, Nought, Whole, Point, Fraction, Exponent, Sign, Digits}
use Rattle.wire.specs.declared.Turn.TheVariants.{Goes}
use Rattle.wire.specs.Figures.{turn_of, exp_turn, frac_turn}
use Rattle.wire.specs.Machine.{going, on_turn, feeds}
use Rattle.wire.specs.Held.{figure_at, inner_at, spot_at}
use Rattle.wire.proofs.Whole.{cut}
use Rattle.wire.proofs.Runs.{of_whole, of_fraction, of_exponent, spaces_pass, digits_pass, chars_inside, chars_pass, key_chars_pass}
use Rattle.pieces.specs.Turns.{turn_at}
use Rattle.pieces.specs.Passing.{Leads}
use Rattle.pieces.proofs.Steps.{spot_between, spot_number, number_is}

-- ---- one behind another

pub lead_none : (spot : ℕ) (t : List ℕ) (i : ℕ) → i ≤ length t → spot < 54 → Leads spot t i spot i
unfolding feeds
lead_none spot t i l u =
    record {
      later = omega arith;
      inside = l;
      going_on = u;
      leads = λ at n os p g h. let e : at + (i - i) ≡ at = omega arith in rw (slice_none i i t (omega arith) (omega arith), e);
    }

pub lead_on : {spot next last : ℕ} {t : List ℕ} {i j k : ℕ} → Leads spot t i next j → Leads next t j last k → Leads spot t i last k
lead_on {spot} {next} {last} {t} {i} {j} {k} a b =
    record {
      later = omega (arith, a.later, b.later);
      inside = b.inside;
      going_on = b.going_on;
      leads = λ at n os p g h.
          let e : at + (j - i) + (k - j) ≡ at + (k - i) = omega (arith, a.later, b.later) in
          rw (slice_split i j k t a.later b.later b.inside, cut base (going at n os (spot_at spot p g h)) (slice i j t) (slice j k t), a.leads at n os p g h, ← e)
          (b.leads (at + (j - i)) n os p g h);
    }

-- ---- runs of bytes that pass a test

module _ (is : ℕ → Bool) (no : is 256 ≡ false) (t : List ℕ) where
  -- every byte of a run passes
  each_run : (left i : ℕ) → i + left ≡ length t → Each (λ b. is b ≡ true) (slice i (run_end is t i) t)
  each_run zero i e = rw (run_end_lem is t no i (ap is (get_or-eq_default t 256 (omega arith)) ∙ no), slice_none i i t (omega arith) (omega arith)) none
  each_run (suc left) i e = go (is (byte_at t i)) refl (each_run left (i + 1) (omega arith))
    where
      go : (x : Bool) → is (byte_at t i) ≡ x → Each (λ b. is b ≡ true) (slice (i + 1) (run_end is t (i + 1)) t) → Each (λ b. is b ≡ true) (slice i (run_end is t i) t)
      go false f rest = rw (run_end_lem is t no i f, slice_none i i t (omega arith) (omega arith)) none
      go true f rest =
          let s = run_span is t no (i + 1) (omega arith) in
          let there : is (get_or t i 0) ≡ true = ap is (any_default 0 256 t i (omega arith)) ∙ f in
          rw (run_on_lem is t no i f, slice_more i (run_end is t (i + 1)) t (omega (arith, s.later)) s.inside) (more there rest)

  -- so it leads on, if each of its bytes leaves the spot
  pub lead_run : (spot i : ℕ) → i ≤ length t → spot < 54
      → ((at n : ℕ) (os : List Bracket) (p g h : ℕ) (q : List ℕ) → Each (λ b. is b ≡ true) q
      → feeds base (going at n os (spot_at spot p g h)) q ≡ going (at + length q) n os (spot_at spot p g h))
      → Leads spot t i spot (run_end is t i)
  lead_run spot i l u pass =
      let s = run_span is t no i l in
      record {
        later = s.later;
        inside = s.inside;
        going_on = u;
        leads = λ at n os p g h.
            rw (← length-slice i (run_end is t i) t s.inside)
            (pass at n os p g h (slice i (run_end is t i) t) (each_run (length t - i) i (omega arith)));
      }

pub lead_spaces : (spot : ℕ) (t : List ℕ) (i : ℕ) → i ≤ length t → spot < 5 → Leads spot t i spot (skip t i)
lead_spaces spot t i l u =
    lead_run is_space refl t spot i l (omega arith) (λ at n os p g h q e. spaces_pass base n os (spot_at spot p g h) (spot_between spot p g h u) q e at)

-- ---- numbers

-- the digits of a number that more of them may follow
pub data Follows : ℕ → Type 0 where
  in_whole : Follows 16
  in_fraction : Follows 18
  in_exponent : Follows 21

pub lead_digits : {spot : ℕ} → Follows spot → (t : List ℕ) (i : ℕ) → i ≤ length t → Leads spot t i spot (digits_end t i)
unfolding spot_at figure_at
lead_digits in_whole t i l = lead_run is_digit refl t 16 i l (omega arith) (λ at n os p g h q e. digits_pass base n os Whole of_whole q e at)
lead_digits in_fraction t i l = lead_run is_digit refl t 18 i l (omega arith) (λ at n os p g h q e. digits_pass base n os Fraction of_fraction q e at)
lead_digits in_exponent t i l = lead_run is_digit refl t 21 i l (omega arith) (λ at n os p g h q e. digits_pass base n os Digits of_exponent q e at)

-- one byte of a number, if it goes on
pub lead_turn : (spot next : ℕ) (t : List ℕ) (i : ℕ) → i < length t → 14 ≤ spot → spot < 22 → 14 ≤ next → next < 22
    → turn_at next ≡ turn_of (figure_at (spot - 14)) (byte_at t i) → Leads spot t i next (i + 1)
unfolding feeds on_turn
lead_turn spot next t i l a b c d e =
    record {
      later = omega arith;
      inside = omega arith;
      going_on = omega arith;
      leads = λ at n os p g h.
          let one : at + (i + 1 - i) ≡ at + 1 = omega arith in
          let goes : turn_at next ≡ Goes (figure_at (next - 14)) = rw (ne_eqb next 4 (λ z. omega arith), le-ltb next 14 c, lt-ltb next 22 d) in
          rw (
            slice_more i (i + 1) t (omega arith) (omega arith),
            slice_none (i + 1) (i + 1) t (omega arith) (omega arith),
            any_default 0 256 t i l,
            one,
            spot_number spot p g h a b,
            spot_number next p g h c d,
            number_is at n os (byte_at t i) (spot - 14) next e,
            goes,
          );
    }

-- ---- whole characters

pub lead_chars : (t : List ℕ) (i j : ℕ) → i ≤ length t → Chars t i j → Leads 22 t i 22 j
unfolding spot_at inner_at
lead_chars t i j l c =
    let s = chars_inside t c l in
    record { later = s.0; inside = s.1; going_on = omega arith; leads = λ at n os p g h. chars_pass base n os t c at }

pub lead_key_chars : (t : List ℕ) (i j : ℕ) → i ≤ length t → Chars t i j → Leads 38 t i 38 j
unfolding spot_at inner_at
lead_key_chars t i j l c =
    let s = chars_inside t c l in
    record { later = s.0; inside = s.1; going_on = omega arith; leads = λ at n os p g h. key_chars_pass base n os t c at }

-- at the end no number goes on
no_end : {g : Figure} (f : Figure) → Goes g ≡ turn_of f 256 → ⊥
unfolding turn_of frac_turn exp_turn
no_end Minus e = let z : ◌≡◌ {A = ℕ} 0 1 = cc in omega arith
no_end Nought e = let z : ◌≡◌ {A = ℕ} 0 1 = cc in omega arith
no_end Whole e = let z : ◌≡◌ {A = ℕ} 0 1 = cc in omega arith
no_end Point e = let z : ◌≡◌ {A = ℕ} 0 1 = cc in omega arith
no_end Fraction e = let z : ◌≡◌ {A = ℕ} 0 1 = cc in omega arith
no_end Exponent e = let z : ◌≡◌ {A = ℕ} 0 1 = cc in omega arith
no_end Sign e = let z : ◌≡◌ {A = ℕ} 0 1 = cc in omega arith
no_end Digits e = let z : ◌≡◌ {A = ℕ} 0 1 = cc in omega arith

-- a byte that continues a number stands in the text
pub turn_inside : (next k : ℕ) (t : List ℕ) (i : ℕ) → i ≤ length t → 14 ≤ next → next < 22 → turn_at next ≡ turn_of (figure_at k) (byte_at t i) → i < length t
turn_inside next k t i l a b e = elim (dec_le (length t) i) [
  | yes o ↦
      let goes : turn_at next ≡ Goes (figure_at (next - 14)) = rw (ne_eqb next 4 (λ z. omega arith), le-ltb next 14 a, lt-ltb next 22 b) in
      absurd (no_end (figure_at k) (sym goes ∙ e ∙ ap (turn_of (figure_at k)) (get_or-eq_default t 256 o)))
  | no o ↦ omega arith
]

pub follows : {spot : ℕ} → (spot ≡ 16) ⊎ ((spot ≡ 18) ⊎ (spot ≡ 21)) → Follows spot
follows (inl e) = rw e in_whole
follows (inr (inl e)) = rw e in_fraction
follows (inr (inr e)) = rw e in_exponent
