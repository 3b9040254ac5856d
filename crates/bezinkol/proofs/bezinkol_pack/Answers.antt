-- `bezinkol_pack` leaves what packing leaves. Assumes nothing.
use mathlib.Core.Path.{ap, ◌∙◌}
use Rattle.packing.specs.Services.{paper_of_packing, packed_by}
use Rattle.bezinkol.specs.Answer.{answer_words}
use Rattle.answers.proofs.Lines.{packing_line}
use Rattle.bezinkol.proofs.bezinkol_pack.Goals as goal

pub returns : goal.returns
unfolding packed_by
returns c =
    let left = c.pack-packing.ensures in
    record {
      answered = c.put_answer.ensures ∙ ap answer_words (c.on_paper.ensures ∙ packing_line _ ∙ ap paper_of_packing left.answered);
      rows = left.left;
      bytes = left.bytes;
    }
