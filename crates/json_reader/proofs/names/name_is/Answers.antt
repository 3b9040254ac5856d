-- `json_reader::names::name_is` meets its contract: what the callees ensure puts their results into the definition. Assumes nothing.
use Rattle.json_reader.proofs.names.name_is.Goals as goal

pub returns : goal.returns
returns c = rw (← c.slice.ensures, ← c.slice_is.ensures)
