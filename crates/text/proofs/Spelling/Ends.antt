-- What reading a string from a place on answers, by rules. Each holds exactly if the answer is given (`answers`, `answered`):
--     ended-spells, spells-ended     it ends at e: the bytes up to the quote before e spell some code points
--     Refused2                       2 at p: bytes that spell, and then the beginning of a character that the byte at p can't continue
--     no3-ill, ill-no3               3 at p: bytes that spell up to p, and there bytes that aim at a character and begin with none
-- No bound on the elements of the text is asked: what is no byte is taken as the end.
-- Assumes nothing.
use Rattle.std.specs.Prelude.{Option, Some, None, Result, Ok, Err}
use Rattle.text.specs.declared.Fault.{Fault}
use Rattle.text.specs.declared.Fault.TheVariants.{Malformed, Forbidden}
use mathlib.Core.Path.{◌≡◌, ap, subst, ◌∙◌}
use mathlib.Core.List.{List}
use Prim.Native.Nat.{ℕ, ◌+◌, ◌-◌, ◌≤◌, ◌<◌}
use native.Mathlib.Omega.{arith}
use lib.ListN.{length, drop}
use Rattle.laws.specs.Lists.{part_of}
use Rattle.laws.proofs.Places.{inside}
use Rattle.laws.proofs.Splits.{part_there, there_part, length_part}
use Rattle.text.specs.Text.{byte_at}
use Rattle.text.specs.Chars.{step_at}
use Rattle.text.specs.Strings.{on_step, string_end}
use Rattle.text.specs.Spelling.{Spells}
use Rattle.text.specs.Broken.{Ill}
use Rattle.text.proofs.Walks.{end_at_lem}
use Rattle.text.proofs.Spelling.Steps.{CutAt, StandsAt, stands_at}
use Rattle.text.proofs.Spelling.Refused.{cut_step, step_cut, ill_step, step_ill, step_place}
use Rattle.text.proofs.Spelling.Through.{SpellsTo, NoChar, stops, through, quote_ends}

-- ---- the answers by rules ----

-- the bytes from i up to a quote spell some code points, and e is the place behind the quote
pub record ClosedString (t : List ℕ) (i e : ℕ) : Type 0 where
  pub after : i < e
  pub within_text : e ≤ length t
  pub quote : byte_at t (e - 1) ≡ 34
  pub codes : List ℕ
  pub spelled : Spells (part_of t i (e - 1)) codes

-- the bytes from i up to some place spell, and from there on begins a character that the byte at p can't continue
pub record Refused2 (t : List ℕ) (i p : ℕ) : Type 0 where
  pub from : ℕ
  pub spells : SpellsTo t i from
  pub cut : CutAt t from p

-- the bytes from i up to p spell, and from p on stand bytes that aim at a character and begin with none
pub record Refused3 (t : List ℕ) (i p : ℕ) : Type 0 where
  pub spells : SpellsTo t i p
  pub ill : Ill (drop p t)

abbrev pub StringAnswer : List ℕ → ℕ → Result ℕ (Fault ℕ) → Type 0
StringAnswer t i (Ok e) = ClosedString t i e
StringAnswer t i (Err (Malformed p)) = Refused2 t i p
StringAnswer t i (Err (Forbidden p)) = Refused3 t i p

-- ---- bytes that spell, as a part of the text ----

pub part_spells : (t : List ℕ) (i q : ℕ) → q ≤ length t → (s : SpellsTo t i q) → Spells (part_of t i q) s.codes
part_spells t i q h s =
    let p = s.place in
    let part : part_of t i q ≡ s.bytes = rw p at (part_there t i s.bytes s.rest s.split (omega arith)) in
    rw part s.spelled

pub spells_part : (t : List ℕ) (i q : ℕ) {cs : List ℕ} → i ≤ q → q ≤ length t → Spells (part_of t i q) cs → SpellsTo t i q
spells_part t i q {cs} h k s =
    let n = length_part t i q h k in
    record { bytes = part_of t i q; rest = drop q t; codes = cs; split = there_part t i q h k; place = omega arith; spelled = s }

-- ---- both ways ----

module _ (t : List ℕ) (i : ℕ) where
  closed_part : (q : ℕ) → SpellsTo t i q → byte_at t q ≡ 34 → ClosedString t i (q + 1)
  closed_part q s h =
      let p = s.place in
      let l = inside t q (omega arith) in
      let last : q + 1 - 1 ≡ q = omega arith in
      record { after = omega arith; within_text = omega arith; quote = rw last h; codes = s.codes; spelled = rw last (part_spells t i q (omega arith) s) }

  stopped : (at : ℕ) → SpellsTo t i at → (s : Result (Option (ℕ × ℕ)) (Fault ℕ)) → step_at t at ≡ s → NoChar s → StringAnswer t i (on_step (string_end t) at s)
  stopped at s (Ok None) e n = closed_part at s (subst (StandsAt t at) e (stands_at t at))
  stopped at s (Ok (Some (c, m))) e n = absurd n
  stopped at s (Err (Malformed p)) e n = record { from = at; spells = s; cut = step_cut t at p e }
  stopped at s (Err (Forbidden p)) e n = rw (step_place t at p e) (record { spells = s; ill = step_ill t at p e })

  pub answers : StringAnswer t i (string_end t i)
  answers = let s = stops t i in rw s.answer (stopped s.at s.spells s.step s.here s.no_char)

  -- reading goes through what spells, up to q
  up_to : (q : ℕ) → SpellsTo t i q → string_end t i ≡ string_end t q
  up_to q s = through t i s.spelled s.rest s.split ∙ ap (string_end t) s.place

  pub answered : (k : Result ℕ (Fault ℕ)) → StringAnswer t i k → string_end t i ≡ k
  answered (Ok e) a =
      let h = a.after in
      let l = a.within_text in
      let last : e - 1 + 1 ≡ e = omega arith in
      up_to (e - 1) (spells_part t i (e - 1) (omega arith) (omega arith) a.spelled) ∙ quote_ends t (e - 1) a.quote ∙ ap Ok last
  answered (Err (Malformed p)) a = up_to a.from a.spells ∙ end_at_lem t a.from (Err (Malformed p)) (cut_step t a.from p a.cut)
  answered (Err (Forbidden p)) a = up_to p a.spells ∙ end_at_lem t p (Err (Forbidden p)) (ill_step t p a.ill)

  -- ---- the same for each answer ----

  pub ended_spells : (e : ℕ) → string_end t i ≡ Ok e → ClosedString t i e
  ended_spells e q = subst (StringAnswer t i) q answers

  pub spells_ended : (e : ℕ) → ClosedString t i e → string_end t i ≡ Ok e
  spells_ended e = answered (Ok e)

  pub no3_ill : (p : ℕ) → string_end t i ≡ Err (Forbidden p) → Refused3 t i p
  no3_ill p q = subst (StringAnswer t i) q answers

  pub ill_no3 : (p : ℕ) → Refused3 t i p → string_end t i ≡ Err (Forbidden p)
  ill_no3 p = answered (Err (Forbidden p))
