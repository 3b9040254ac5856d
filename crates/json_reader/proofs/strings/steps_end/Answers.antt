-- `json_reader::strings::steps_end` meets its contract: each turn goes on over a character, and where there is none the string ends as the step says (`end_step`). The measure is what is left of the text. Assumes nothing.
use Rattle.std.specs.Prelude.{Option, Some, None, Result, Ok, Err}
use Rattle.text.specs.declared.Fault.{Fault}
use Rattle.text.specs.declared.Fault.TheVariants.{Malformed, Forbidden}
use mathlib.Core.Path.{◌≡◌, refl, sym, ap, ◌∙◌}
use Prim.Native.Nat.{ℕ, ◌+◌}
use native.Mathlib.Omega.{arith}
use Rattle.text.specs.Chars.{Chars, stay, more}
use Rattle.text.specs.Strings.{on_step, string_end}
use Rattle.text.proofs.Walks.{Inside, close_inside, char_inside, end_step}
use Rattle.json_reader.specs.Plain.{Stops}
use Rattle.json_reader.proofs.PlainRuns.{chars_join, chars_later, chars_string}
use Rattle.json_reader.proofs.strings.steps_end.Goals as goal

pub overflow_add-result : goal.overflow_add-result
overflow_add-result c =
    let s = c in
    let l = c in
    omega (arith, close_inside l.args.text.now l.loop-len.at (sym s.step_at.ensures ∙ (c.in-Ok-None.is ∙ ap Ok c.in-Ok-None.field-0-is)))

-- what a step says of the whole string
turn : (c : goal.In-Ok-None)
    → let a = c.args in
    string_end a.text.now a.from ≡ on_step (string_end a.text.now) c.loop-len.at c.step_at.result
turn c =
    let l = c in
    let t = l.args.text.now in
    sym (chars_string l.loop-len.invariant) ∙ end_step t l.loop-len.at ∙ ap (on_step (string_end t) l.loop-len.at) (sym c.step_at.ensures)

-- a step that is no character: all characters are behind, and the string ends so
done : (c : goal.In-Ok-None) (x : Result (Option (ℕ × ℕ)) (Fault ℕ)) (token : Result ℕ (Fault ℕ)) → c.step_at.result ≡ x → ((code len : ℕ) → x ≡ Ok (Some (code, len)) → ⊥)
    → token ≡ on_step (string_end c.args.text.now) c.loop-len.at x
    → let a = c.args in Stops a.text.now a.from (record { at = c.loop-len.at; token = token })
done c x token e never k =
    let l = c in
    record {
      chars = record { chars = l.loop-len.invariant; ends = λ code len f. never code len (sym e ∙ c.step_at.ensures ∙ f) };
      token = k ∙ ap (on_step (string_end l.args.text.now) l.loop-len.at) (sym e) ∙ sym (turn c);
    }

pub returns-in-Ok-None : goal.returns-in-Ok-None
returns-in-Ok-None c = done c (Ok None) _ (c.in-Ok-None.is ∙ ap Ok c.in-Ok-None.field-0-is) (λ code len e. let z : ◌≡◌ {A = ℕ} 0 1 = cc in omega arith) refl

-- the character that was met
met : (c : goal.Then-len-eq1)
    → let l = c in Inside l.args.text.now l.loop-len.at c.in-Ok-Some.len
met c =
    let s = c in
    let l = c in
    char_inside l.args.text.now l.loop-len.at (sym s.step_at.ensures ∙ (c.in-Ok-Some.is ∙ ap Ok c.in-Ok-Some.field-0-is))

-- and behind it
behind : (c : goal.Then-len-eq1)
    → let l = c in
    let a = l.args in
    Chars a.text.now a.from (l.loop-len.at + c.in-Ok-Some.len)
behind c =
    let s = c in
    let l = c in
    chars_join l.loop-len.invariant (more (sym s.step_at.ensures ∙ (c.in-Ok-Some.is ∙ ap Ok c.in-Ok-Some.field-0-is)) stay)

pub returns-then-len-eq1 : goal.returns-then-len-eq1
returns-then-len-eq1 c =
    let n = c in
    let i = met c in
    let k = chars_later n.loop-len.invariant in
    (omega arith, (omega arith, behind c))

-- the character that was met
met_2 : (c : goal.Else-len-eq1)
    → let l = c in Inside l.args.text.now l.loop-len.at c.in-Ok-Some.len
met_2 c =
    let s = c in
    let l = c in
    char_inside l.args.text.now l.loop-len.at (sym s.step_at.ensures ∙ (c.in-Ok-Some.is ∙ ap Ok c.in-Ok-Some.field-0-is))

pub loop-len-smaller : goal.loop-len-smaller
loop-len-smaller c = let i = met_2 c in omega arith

-- what a step says of the whole string
turn_2 : (c : goal.In-Err-Malformed)
    → let a = c.args in
    string_end a.text.now a.from ≡ on_step (string_end a.text.now) c.loop-len.at c.step_at.result
turn_2 c =
    let l = c in
    let t = l.args.text.now in
    sym (chars_string l.loop-len.invariant) ∙ end_step t l.loop-len.at ∙ ap (on_step (string_end t) l.loop-len.at) (sym c.step_at.ensures)

-- a step that is no character: all characters are behind, and the string ends so
done_2 : (c : goal.In-Err-Malformed) (x : Result (Option (ℕ × ℕ)) (Fault ℕ)) (token : Result ℕ (Fault ℕ)) → c.step_at.result ≡ x → ((code len : ℕ) → x ≡ Ok (Some (code, len)) → ⊥)
    → token ≡ on_step (string_end c.args.text.now) c.loop-len.at x
    → let a = c.args in Stops a.text.now a.from (record { at = c.loop-len.at; token = token })
done_2 c x token e never k =
    let l = c in
    record {
      chars = record { chars = l.loop-len.invariant; ends = λ code len f. never code len (sym e ∙ c.step_at.ensures ∙ f) };
      token = k ∙ ap (on_step (string_end l.args.text.now) l.loop-len.at) (sym e) ∙ sym (turn_2 c);
    }

pub returns-in-Err-Malformed : goal.returns-in-Err-Malformed
returns-in-Err-Malformed c = done_2 c (Err (Malformed _)) _ (c.in-Err-Malformed.is ∙ ap Err c.in-Err-Malformed.field-0-is) (λ code len e. let z : ◌≡◌ {A = ℕ} 0 1 = cc in omega arith) refl

-- what a step says of the whole string
turn_3 : (c : goal.In-Err-Forbidden)
    → let a = c.args in
    string_end a.text.now a.from ≡ on_step (string_end a.text.now) c.loop-len.at c.step_at.result
turn_3 c =
    let l = c in
    let t = l.args.text.now in
    sym (chars_string l.loop-len.invariant) ∙ end_step t l.loop-len.at ∙ ap (on_step (string_end t) l.loop-len.at) (sym c.step_at.ensures)

-- a step that is no character: all characters are behind, and the string ends so
done_3 : (c : goal.In-Err-Forbidden) (x : Result (Option (ℕ × ℕ)) (Fault ℕ)) (token : Result ℕ (Fault ℕ)) → c.step_at.result ≡ x → ((code len : ℕ) → x ≡ Ok (Some (code, len)) → ⊥)
    → token ≡ on_step (string_end c.args.text.now) c.loop-len.at x
    → let a = c.args in Stops a.text.now a.from (record { at = c.loop-len.at; token = token })
done_3 c x token e never k =
    let l = c in
    record {
      chars = record { chars = l.loop-len.invariant; ends = λ code len f. never code len (sym e ∙ c.step_at.ensures ∙ f) };
      token = k ∙ ap (on_step (string_end l.args.text.now) l.loop-len.at) (sym e) ∙ sym (turn_3 c);
    }

pub returns-in-Err-Forbidden : goal.returns-in-Err-Forbidden
returns-in-Err-Forbidden c = done_3 c (Err (Forbidden _)) _ (c.in-Err-Forbidden.is ∙ ap Err c.in-Err-Forbidden.field-0-is) (λ code len e. let z : ◌≡◌ {A = ℕ} 0 1 = cc in omega arith) refl

pub loop-len-init : goal.loop-len-init
loop-len-init c = stay

-- the character that was met
met_3 : (c : goal.In-Ok-Some)
    → let l = c in Inside l.args.text.now l.loop-len.at c.in-Ok-Some.len
met_3 c =
    let s = c in
    let l = c in
    char_inside l.args.text.now l.loop-len.at (sym s.step_at.ensures ∙ (c.in-Ok-Some.is ∙ ap Ok c.in-Ok-Some.field-0-is))

pub overflow_add-at : goal.overflow_add-at
overflow_add-at c = omega (arith, (met_3 c).before_end, (met_3 c).size.few)

-- and behind it
behind_2 : (c : goal.Else-len-eq1)
    → let l = c in
    let a = l.args in
    Chars a.text.now a.from (l.loop-len.at + c.in-Ok-Some.len)
behind_2 c =
    let s = c in
    let l = c in
    chars_join l.loop-len.invariant (more (sym s.step_at.ensures ∙ (c.in-Ok-Some.is ∙ ap Ok c.in-Ok-Some.field-0-is)) stay)

pub loop-len-preserved : goal.loop-len-preserved
loop-len-preserved c = behind_2 c
