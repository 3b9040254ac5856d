-- `json_reader::tokens::digits_end` meets its contract: its loop is that over a run, here of digits. Assumes nothing.
use mathlib.Core.Path.{refl}
use native.Mathlib.Omega.{arith}
use Rattle.text.specs.Tokens.{is_digit}
use Rattle.json_reader.proofs.Runs.{Turn, run_turn, run_over}
use Rattle.json_reader.proofs.tokens.digits_end.Goals as goal

pub loop-at-init : goal.loop-at-init
loop-at-init c = record { ends = refl }

turn : (c : goal.In-loop-at)
    → let a = c.args in Turn is_digit a.text.now a.from c.loop-at.at
turn c = run_turn refl c.loop-at.invariant c.digit_at.ensures c.loop-at-test.true

pub overflow_add-at : goal.overflow_add-at
overflow_add-at c = omega (arith, (turn c).within)

pub loop-at-smaller : goal.loop-at-smaller
loop-at-smaller c = omega (arith, (turn c).within)

pub loop-at-preserved : goal.loop-at-preserved
loop-at-preserved c = (turn c).again

pub returns : goal.returns
returns c = run_over refl c.loop-at.invariant c.digit_at.ensures c.loop-at-test.false
