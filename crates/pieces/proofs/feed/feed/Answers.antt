-- `pieces::feed::feed` meets its contract, by the class of the spot. Assumes nothing.
use mathlib.Core.Path.{◌∙◌}
use Prim.Native.Nat.{◌-◌}
use native.Mathlib.Omega.{arith}
use Rattle.wire.specs.Machine.{number}
use Rattle.wire.specs.Held.{figure_at, literal_at}
use Rattle.pieces.proofs.Steps.{feed_at, spot_literal, spot_number}
use Rattle.pieces.proofs.feed.feed.Goals as goal

pub returns-then-h-lt-NUMBERS : goal.returns-then-h-lt-NUMBERS
returns-then-h-lt-NUMBERS c =
    let a = c.args in
    let h = a.h in
    c.in_literal.ensures
    ∙ feed_at a.at h a.b (literal_at (h.spot - 5)) c.requires (spot_literal h.spot h.from h.bits h.high (omega arith) c.if-h-lt-NUMBERS.true)

pub returns-then-h-lt-TEXTS : goal.returns-then-h-lt-TEXTS
returns-then-h-lt-TEXTS c =
    let a = c.args in
    let h = a.h in
    c.in_number.ensures
    ∙ feed_at a.at h a.b (number (figure_at (h.spot - 14))) c.requires (spot_number h.spot h.from h.bits h.high (omega arith) c.if-h-lt-TEXTS.true)

pub returns-then-h-lt-LITERALS : goal.returns-then-h-lt-LITERALS
returns-then-h-lt-LITERALS c = c.between.ensures

pub in_string-requires : goal.in_string-requires
in_string-requires c = record { le_spot = omega arith; going = c.requires }

pub returns : goal.returns
returns c = c.in_string.ensures
