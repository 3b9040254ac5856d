-- `json_reader::tokens::space_at` meets its contract: what the two callees ensure, one after the other. Assumes nothing.
use Rattle.json_reader.proofs.tokens.space_at.Goals as goal

pub returns : goal.returns
returns c = rw (← c.peek.ensures.value) c.is_space.ensures
