-- `pieces::runs::digits_from` meets its contract: digits lead on where more of them may follow. Assumes nothing.
use native.Mathlib.Omega.{arith}
use Rattle.pieces.proofs.Stretches.{lead_none, lead_digits, follows}
use Rattle.pieces.proofs.runs.digits_from.Goals as goal

pub returns-in-16 : goal.returns-in-16
returns-in-16 c =
    let a = c.args in
    rw c.digits_end.ensures (lead_digits (follows c.in-16.is) a.text.now a.from c.requires.from_in_bounds)

pub returns-in_default : goal.returns-in_default
returns-in_default c =
    lead_none c.args.spot c.args.text.now c.args.from c.requires.from_in_bounds (omega (arith, c.requires.going))
