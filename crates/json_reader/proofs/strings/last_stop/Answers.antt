-- `json_reader::strings::last_stop` meets its contract: each turn goes on over plain bytes and then over what is not plain. The measure is what is left of the text. Assumes nothing.
use native.Mathlib.Omega.{arith}
use Rattle.text.specs.Chars.{stay}
use Rattle.json_reader.specs.Plain.{Stretched}
use Rattle.json_reader.specs.declared.strings.Stepped.TheVariants.{On}
use Rattle.json_reader.proofs.PlainRuns.{chars_join, chars_later, stops_from}
use Rattle.json_reader.proofs.strings.last_stop.Goals as goal

-- what the single steps say, where they go on
on : (c : goal.In-On)
    → let s = c in Stretched s.args.text.now s.plain_end-next.result (On c.in-On.to)
on c = rw c.in-On.is at c.steps_end.ensures

pub loop-to-smaller : goal.loop-to-smaller
loop-to-smaller c = let s = on c in omega (arith, s.0, s.1.0, chars_later c.plain_end-next.ensures)

pub loop-to-preserved : goal.loop-to-preserved
loop-to-preserved c =
    let p = c in
    chars_join p.loop-to.invariant (chars_join p.plain_end-next.ensures (on c).1.1)

pub returns-in-Done : goal.returns-in-Done
returns-in-Done c =
    let s = c in
    let p = c in
    stops_from (chars_join p.loop-to.invariant p.plain_end-next.ensures) (rw c.in-Done.is at s.steps_end.ensures)

pub loop-to-init : goal.loop-to-init
loop-to-init c = stay
