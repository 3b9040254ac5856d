-- Reading a string goes through what spells, and stops behind it:
--     through              from the first place of bytes that spell it answers what it answers from the place behind them
--     quote-ends           a quote: the string ends behind it
--     stops                from any place on, bytes that spell stand up to some place, and no character there: what stands there answers
-- Assumes nothing.
use Rattle.std.specs.Prelude.{Option, Some, None, Result, Ok, Err}
use Rattle.text.specs.declared.Fault.{Fault}
use Rattle.text.specs.declared.Fault.TheVariants.{Malformed, Forbidden}
use mathlib.Core.Path.{◌≡◌, refl, sym, ap, ◌∙◌}
use mathlib.Core.List.{List, [], ◌∷◌, ◌++◌, append_assoc}
use Prim.Native.Nat.{ℕ, zero, suc, ◌+◌, ◌-◌, ◌<◌}
use native.Mathlib.Nat.{add-zero}
use native.Mathlib.Omega.{arith}
use lib.ListN.{length, drop, length-append}
use Rattle.laws.proofs.Splits.{beyond}
use Rattle.text.specs.Text.{byte_at}
use Rattle.text.specs.Chars.{step_at, step_by}
use Rattle.text.specs.Strings.{on_step, string_end}
use Rattle.text.specs.Spelling.{Spells, none, more}
use Rattle.text.proofs.Walks.{end_at_lem, char_inside}
use Rattle.text.proofs.Spelling.Taken.{spelled_step}
use Rattle.text.proofs.Spelling.Steps.{CharAt}
use Rattle.text.proofs.Spelling.Characters.{char_at}

-- ---- what spells is read through ----

pub through : (t : List ℕ) (i : ℕ) {w cs : List ℕ} → Spells w cs → (r : List ℕ) → drop i t ≡ w ++ r → string_end t i ≡ string_end t (i + length w)
through t i none r e = ap (string_end t) (sym (add-zero i))
through t i (more {w} {u} {c} s rest) r e =
    let e1 : drop i t ≡ w ++ (u ++ r) = e ∙ append_assoc w u r in
    let place : i + length w + length u ≡ i + length (w ++ u) = omega (arith, length-append w u) in
    end_at_lem t i (Ok (Some (c, length w))) (spelled_step t i s (u ++ r) e1) ∙ through t (i + length w) rest r (beyond t i w (u ++ r) e1) ∙ ap (string_end t) place

pub quote_ends : (t : List ℕ) (i : ℕ) → byte_at t i ≡ 34 → string_end t i ≡ Ok (i + 1)
unfolding step_by
quote_ends t i e = let s : step_at t i ≡ (Ok None) = rw e in end_at_lem t i (Ok None) s

-- ---- where reading stops ----

-- the bytes from i up to q spell some code points
pub record SpellsTo (t : List ℕ) (i q : ℕ) : Type 0 where
  pub bytes : List ℕ
  pub rest : List ℕ
  pub codes : List ℕ
  pub split : drop i t ≡ bytes ++ rest
  pub place : i + length bytes ≡ q
  pub spelled : Spells bytes codes

spells_none : (t : List ℕ) (i : ℕ) → SpellsTo t i i
spells_none t i = record { bytes = []; rest = drop i t; codes = []; split = refl; place = omega arith; spelled = none }

spells_more : (t : List ℕ) (i q : ℕ) {c n : ℕ} → CharAt t i c n → SpellsTo t (i + n) q → SpellsTo t i q
spells_more t i q {c} {n} a s =
    let w = a.bytes in
    let u = s.bytes in
    let m = a.size in
    let p = s.place in
    let e1 : drop (i + n) t ≡ a.rest = rw m at (beyond t i w a.rest a.split) in
    let e2 : drop i t ≡ w ++ u ++ s.rest = a.split ∙ rw (← e1, s.split, append_assoc) in
    record { bytes = w ++ u; rest = s.rest; codes = c ∷ s.codes; split = e2; place = omega (arith, length-append w u); spelled = more a.spelled s.spelled }

abbrev pub NoChar : Result (Option (ℕ × ℕ)) (Fault ℕ) → Type 0
NoChar (Ok None) = Prim.Unit {0}
NoChar (Ok (Some (c, n))) = ⊥
NoChar (Err (Malformed p)) = Prim.Unit {0}
NoChar (Err (Forbidden p)) = Prim.Unit {0}

-- reading from i on stops at a place up to which the bytes spell, at something that is no character
pub record Stops (t : List ℕ) (i : ℕ) : Type 0 where
  pub at : ℕ
  pub spells : SpellsTo t i at
  pub step : Result (Option (ℕ × ℕ)) (Fault ℕ)
  pub here : step_at t at ≡ step
  pub no_char : NoChar step
  pub answer : string_end t i ≡ on_step (string_end t) at step

stops_later : (t : List ℕ) (i : ℕ) {c n : ℕ} → step_at t i ≡ Ok (Some (c, n)) → Stops t (i + n) → Stops t i
stops_later t i {c} {n} e s =
    record {
      at = s.at;
      spells = spells_more t i s.at (char_at t i e) s.spells;
      step = s.step;
      here = s.here;
      no_char = s.no_char;
      answer = end_at_lem t i (Ok (Some (c, n))) e ∙ s.answer;
    }

-- by the number of bytes left, f
stops_in : (f : ℕ) (t : List ℕ) (i : ℕ) → length t - i < f → Stops t i
stops_in zero t i h = absurd (omega arith)
stops_in (suc f) t i h = go (step_at t i) refl (λ j l. stops_in f t j l)
  where
    stop : (s : Result (Option (ℕ × ℕ)) (Fault ℕ)) → NoChar s → step_at t i ≡ s → Stops t i
    stop s n e = record { at = i; spells = spells_none t i; step = s; here = e; no_char = n; answer = end_at_lem t i s e }

    go : (s : Result (Option (ℕ × ℕ)) (Fault ℕ)) → step_at t i ≡ s → ((j : ℕ) → length t - j < f → Stops t j) → Stops t i
    go (Ok None) e later = stop (Ok None) tt e
    go (Ok (Some (c, n))) e later = let l = char_inside t i e in stops_later t i e (later (i + n) (omega arith))
    go (Err (Malformed p)) e later = stop (Err (Malformed p)) tt e
    go (Err (Forbidden p)) e later = stop (Err (Forbidden p)) tt e

pub stops : (t : List ℕ) (i : ℕ) → Stops t i
stops t i = stops_in (suc (length t - i)) t i (omega arith)
