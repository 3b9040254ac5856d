-- `card::schema::object_of` meets its contract. Assumes nothing.
use Rattle.card.proofs.Known.Codes.{object_code}
use Rattle.card.proofs.schema.object_of.Goals as goal

pub returns : goal.returns
returns c = object_code c.args.o c.requires
