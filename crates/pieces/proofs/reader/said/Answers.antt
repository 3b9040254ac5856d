-- `pieces::reader::said` meets its contract: without an answer "go on", and else the two numbers of the answer's words. Assumes nothing.
use mathlib.Core.Path.{◌≡◌}
use Prim.Native.Nat.{◌-◌, ◌≤◌}
use native.Mathlib.Omega.{arith}
use Rattle.text.specs.Sheet.{numbers}
use Rattle.wire.specs.Held.{state_of}
use Rattle.wire.specs.Service.{answer_of}
use Rattle.pieces.proofs.Steps.{at_going}
use Rattle.pieces.proofs.Feeding.{answer_is}
use Rattle.pieces.proofs.reader.said.Goals as goal

pub returns-then-held-lt-OVER : goal.returns-then-held-lt-OVER
returns-then-held-lt-OVER c =
    let h = c.args.held in
    rw (at_going h.place h c.if-held-lt-OVER.true)

-- the answer's words have its two numbers
words : (c : goal.After-struct_known-2-1) → let h = c.args.held in
    (100 ≤ c.tidy_answer-told.result.spot) × (numbers (c.tidy_answer-told.result.spot - 100) c.tidy_answer-told.result.from 0 ≡ answer_of (state_of h))
words c =
    let h = c.args.held in
    answer_is h c.tidy_answer-told.result (omega arith) c.tidy_answer-told.ensures

pub overflow_sub-result : goal.overflow_sub-result
overflow_sub-result c = omega (arith, (words c).0)

-- the answer's words have its two numbers
words_2 : (c : goal.After-struct_known-3-1) → let h = c.args.held in
    (100 ≤ c.tidy_answer-told.result.spot) × (numbers (c.tidy_answer-told.result.spot - 100) c.tidy_answer-told.result.from 0 ≡ answer_of (state_of h))
words_2 c =
    let h = c.args.held in
    answer_is h c.tidy_answer-told.result (omega arith) c.tidy_answer-told.ensures

pub returns : goal.returns
returns c = (words_2 c).1
