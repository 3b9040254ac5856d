-- `json_reader::quoted::Quoted::next` meets its contract: a raw quote ends the name, and else the cursor hands out what decoding finds. Assumes nothing.
use mathlib.Core.Path.{◌≡◌, sym, ap, ◌∙◌}
use mathlib.Core.List.{[]}
use Rattle.text.specs.Text.{byte_at}
use native.Mathlib.Omega.{arith}
use lib.ListN.{length}
use Rattle.json_reader.specs.Quoted.{rest_to, unread_to}
use Rattle.json_reader.proofs.Comparing.{next_quoted, next_close}
use Rattle.json_reader.proofs.quoted.QuotedIterator.next.Goals as goal
use Rattle.json_reader.proofs.quoted.QuotedIterator.next.Goals.{else-self-eq0-via-then-self-eq0+else-peek-eq-QUOTE, else-self-eq0-via-else-self-eq0}

pub returns-then-peek-eq-QUOTE-clause-steps : goal.returns-then-peek-eq-QUOTE-clause-steps
returns-then-peek-eq-QUOTE-clause-steps c =
    let s = c.args.self.now in
    let over : rest_to s.text.now s.at ≡ [] = sym (next_close s.text.now s.at c.if-self-eq0.true (sym c.peek.ensures.value ∙ c.if-peek-eq-QUOTE.true)) in
    (over, over)

pub returns-in_err-b-clause-steps : goal.returns-in_err-b-clause-steps
returns-in_err-b-clause-steps c =
    let s = c.args.self.now in
    let no_quote : s.at.left ≡ 0 → byte_at s.text.now s.at.at ≡ 34 → ⊥ = λ z q. elim c.else-self-eq0.branch [
      | else-self-eq0-via-then-self-eq0+else-peek-eq-QUOTE w ↦ w.if-peek-eq-QUOTE.false (w.peek.ensures.value ∙ q)
      | else-self-eq0-via-else-self-eq0 w ↦ w.if-self-eq0.false z
    ] in
    let over = sym (next_quoted s.text.now s.at no_quote) ∙ ap (unread_to s.text.now) (sym c.next_byte.ensures.is ∙ c.in_err-b.was) in
    rw c.from_residual.ensures (over, over)

pub returns-clause-steps : goal.returns-clause-steps
returns-clause-steps c =
    let s = c.args.self.now in
    let no_quote : s.at.left ≡ 0 → byte_at s.text.now s.at.at ≡ 34 → ⊥ = λ z q. elim c.else-self-eq0.branch [
      | else-self-eq0-via-then-self-eq0+else-peek-eq-QUOTE w ↦ w.if-peek-eq-QUOTE.false (w.peek.ensures.value ∙ q)
      | else-self-eq0-via-else-self-eq0 w ↦ w.if-self-eq0.false z
    ] in
    sym (next_quoted s.text.now s.at no_quote) ∙ ap (unread_to s.text.now) (sym c.next_byte.ensures.is ∙ c.in_ok-b.was)

pub returns-clause-goes : goal.returns-clause-goes
returns-clause-goes c =
    let less = ap length (returns-clause-steps c) in
    record { on = λ f. (tt, tt, omega (arith, less)); keeps = tt; rests = λ f. tt }
