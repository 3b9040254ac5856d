-- `bezinkol_read` leaves what the service leaves. Assumes nothing.
use mathlib.Core.Path.{refl, ap, ◌∙◌}
use Rattle.contact.specs.Services.{served}
use Rattle.bezinkol.specs.Answer.{answer_words}
use Rattle.answers.proofs.Lines.{read_line}
use Rattle.bezinkol.proofs.bezinkol_read.Goals as goal

pub returns : goal.returns
unfolding served
returns c =
    let left = c.read-rows.ensures in
    record {
      answered = c.put_answer.ensures ∙ ap answer_words (c.on_paper.ensures ∙ read_line _ ∙ left.answered);
      rows = left.left;
      bytes = refl;
    }
