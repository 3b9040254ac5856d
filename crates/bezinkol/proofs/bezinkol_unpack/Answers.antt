-- `bezinkol_unpack` leaves what unpacking leaves. Assumes nothing.
use mathlib.Core.Path.{ap, ◌∙◌}
use Rattle.packing.specs.Services.{paper_of_unpacking, unpacked_by}
use Rattle.bezinkol.specs.Answer.{answer_words}
use Rattle.answers.proofs.Lines.{unpacking_line}
use Rattle.bezinkol.proofs.bezinkol_unpack.Goals as goal

pub returns : goal.returns
unfolding unpacked_by
returns c =
    let left = c.unpack-unpacking.ensures in
    record {
      answered = c.put_answer.ensures ∙ ap answer_words (c.on_paper.ensures ∙ unpacking_line _ ∙ ap paper_of_unpacking left.answered);
      bytes = left.bytes;
    }
