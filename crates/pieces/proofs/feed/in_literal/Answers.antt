-- `pieces::feed::in_literal` meets its contract: the byte that must come leads on, another is refused. Assumes nothing.
use Rattle.pieces.proofs.Steps.{literal_way, literal_on}
use Rattle.pieces.proofs.feed.in_literal.Goals as goal

pub returns-then-next-eq-GRAMMAR : goal.returns-then-next-eq-GRAMMAR
returns-then-next-eq-GRAMMAR c =
    let a = c.args in
    literal_way a.at a.h a.b a.k c.spelled_next.result c.told.result c.spelled_next.ensures c.if-next-eq-GRAMMAR.true c.told.ensures

pub returns : goal.returns
returns c =
    let a = c.args in
    literal_on a.at a.h a.b a.k c.spelled_next.result c.moved.result c.spelled_next.ensures c.if-next-eq-GRAMMAR.false c.moved.ensures
