-- `pointers::parts::past_written` meets its contract: a cursor where a character begins is a place. Assumes nothing.
use Rattle.pointers.specs.Parts.{stays, passes}
use Rattle.pointers.proofs.parts.past_written.Goals as goal

pub returns : goal.returns
returns c = rw c.cursor_at.ensures (passes c.if-c-ne0.false c.written_end.ensures)

pub returns-then-c-ne0 : goal.returns-then-c-ne0
returns-then-c-ne0 c = stays

pub written_end-requires : goal.written_end-requires
written_end-requires c = tt

pub cursor_at-requires : goal.cursor_at-requires
cursor_at-requires c = tt
