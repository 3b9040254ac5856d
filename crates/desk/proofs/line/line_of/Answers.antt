-- `desk::line::line_of` meets its contract: 34 and a cleared table, or what judging answers and leaves. Assumes nothing.
use lib.ListN.{length}
use mathlib.Core.Path.{◌∙◌}
use Rattle.answers.proofs.Lines.{verdict_line}
use Rattle.desk.proofs.Inputs.{says_over, says_judged}
use Rattle.desk.proofs.line.line_of.Goals as goal

pub returns-then-more : goal.returns-then-more
returns-then-more c =
    says_over c.args.text.now (length c.args.table.now) c.if-more.true (c.fill.ensures.after (λ y e. e))

pub returns : goal.returns
returns c =
    says_judged c.args.text.now c.args.table.now c.if-more.false (c.on_paper.ensures ∙ verdict_line _)
    c.judge.ensures
