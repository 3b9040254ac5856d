-- `pieces::feed::after` meets its contract: white space leads there, another byte is one after a value. Assumes nothing.
use mathlib.Core.Path.{sym, ◌∙◌}
use native.Mathlib.Omega.{arith}
use Rattle.wire.specs.Machine.{after_of}
use Rattle.wire.specs.Held.{opened_of, spot_at}
use Rattle.pieces.proofs.Steps.{moved_way, after_is}
use Rattle.pieces.proofs.feed.after.Goals as goal

pub returns-then-is_space : goal.returns-then-is_space
unfolding after_of spot_at
returns-then-is_space c =
    let a = c.args in
    rw (sym c.is_space.ensures ∙ c.if-is_space.true) (moved_way a.at a.h a.b 4 c.moved.result (omega arith) c.moved.ensures)

pub returns : goal.returns
returns c =
    let a = c.args in
    c.closes.ensures
    ∙ sym (after_is a.at a.h.values (opened_of a.h.depth a.h.opened) a.b (sym c.is_space.ensures ∙ c.if-is_space.false))
