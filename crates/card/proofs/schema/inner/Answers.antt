-- `card::schema::inner` meets its contract. Assumes nothing.
use Rattle.card.proofs.Known.Codes.{inner_one, inner_many}
use Rattle.card.proofs.schema.inner.Goals as goal

pub returns-then-code-eq0 : goal.returns-then-code-eq0
returns-then-code-eq0 c = inner_one c.args.code c.if-code-eq0.true

pub returns : goal.returns
returns c = inner_many c.args.code c.if-code-eq0.false
