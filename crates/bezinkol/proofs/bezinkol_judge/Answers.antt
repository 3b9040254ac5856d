-- `bezinkol_judge` leaves what the service leaves. Assumes nothing.
use mathlib.Core.Path.{refl, ap, ◌∙◌}
use Rattle.contact.specs.Services.{served}
use Rattle.bezinkol.specs.Answer.{answer_words}
use Rattle.answers.proofs.Lines.{verdict_line}
use Rattle.bezinkol.proofs.bezinkol_judge.Goals as goal

pub returns : goal.returns
unfolding served
returns c =
    let left = c.judge-verdict.ensures in
    record {
      answered = c.put_answer.ensures ∙ ap answer_words (c.on_paper.ensures ∙ verdict_line _ ∙ left.answered);
      rows = left.table;
      bytes = refl;
    }
