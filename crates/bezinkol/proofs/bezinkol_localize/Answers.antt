-- `bezinkol_localize` leaves what the service leaves. Assumes nothing.
use mathlib.Core.Path.{ap, ◌∙◌}
use Rattle.contact.specs.Services.{served}
use Rattle.bezinkol.specs.Answer.{answer_words}
use Rattle.answers.proofs.Lines.{localized_line}
use Rattle.bezinkol.proofs.bezinkol_localize.Goals as goal

pub returns : goal.returns
unfolding served
returns c =
    let left = c.localize-localized.ensures in
    record {
      answered = c.put_answer.ensures ∙ ap answer_words (c.on_paper.ensures ∙ localized_line _ ∙ left.paper);
      rows = left.rows;
      bytes = left.bytes;
    }
