-- `pieces::runs::run` meets its contract, by the class of the spot. Assumes nothing.
use native.Mathlib.Omega.{arith}
use Rattle.pieces.proofs.Stretches.{lead_none, lead_spaces, lead_chars, lead_key_chars}
use Rattle.pieces.proofs.runs.run.Goals as goal

pub returns-then-spot-lt-LITERALS : goal.returns-then-spot-lt-LITERALS
returns-then-spot-lt-LITERALS c =
    let a = c.args in
    rw c.skip.ensures (lead_spaces a.spot a.text.now a.from c.requires.from_in_bounds c.if-spot-lt-LITERALS.true)

pub returns-then-spot-lt-NUMBERS : goal.returns-then-spot-lt-NUMBERS
returns-then-spot-lt-NUMBERS c =
    lead_none c.args.spot c.args.text.now c.args.from c.requires.from_in_bounds c.requires.going

pub returns-then-spot-eq-TEXTS : goal.returns-then-spot-eq-TEXTS
returns-then-spot-eq-TEXTS c =
    let a = c.args in
    rw c.if-spot-eq-TEXTS.true (lead_chars a.text.now a.from c.chars_end.result c.requires.from_in_bounds c.chars_end.ensures.chars)

pub returns-then-spot-eq-KEYS : goal.returns-then-spot-eq-KEYS
returns-then-spot-eq-KEYS c =
    let a = c.args in
    rw c.if-spot-eq-KEYS.true (lead_key_chars a.text.now a.from c.chars_end-then-spot-eq-KEYS.result c.requires.from_in_bounds c.chars_end-then-spot-eq-KEYS.ensures.chars)

pub returns : goal.returns
returns c =
    lead_none c.args.spot c.args.text.now c.args.from c.requires.from_in_bounds c.requires.going

pub number_run-requires : goal.number_run-requires
number_run-requires c = record { from_in_bounds = c.requires.from_in_bounds; number = omega arith; going = c.if-spot-lt-TEXTS.true }

pub returns-then-spot-lt-TEXTS : goal.returns-then-spot-lt-TEXTS
returns-then-spot-lt-TEXTS c = c.number_run.ensures
