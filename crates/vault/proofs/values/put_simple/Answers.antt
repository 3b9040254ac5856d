-- `vault::values::put_simple` meets its contract: an arm for each tag. Assumes nothing.
use mathlib.Core.Path.{sym, ◌∙◌}
use Rattle.laws.proofs.Picks.{picks}
use Rattle.packing.specs.Unpacked.{simple_of}
use Rattle.vault.proofs.Members.{number_so, number_not, text_so, text_not, part_whole}
use Rattle.vault.proofs.values.put_simple.Goals as goal

pub returns-in-1 : goal.returns-in-1
unfolding simple_of
returns-in-1 c = rw c.in-1.is (c.put_bare.ensures 1)

pub returns-in-2 : goal.returns-in-2
unfolding simple_of
returns-in-2 c = rw c.in-2.is (c.put_bare-in-2.ensures 2)

pub returns-in-3 : goal.returns-in-3
unfolding simple_of
returns-in-3 c = rw c.in-3.is (c.put_bare-in-3.ensures 3)

pub returns-in-4 : goal.returns-in-4
returns-in-4 c =
    let w = c.args.content.now in
    rw c.in-4.is (record { doc = _; is = number_so w (sym c.is_number.ensures ∙ c.if-is_number.true); wrote = rw (part_whole w) at c.put_run.ensures })

pub returns-in_default : goal.returns-in_default
returns-in_default c = rw c.in-4.is (number_not c.args.content.now (sym c.is_number.ensures ∙ c.if-is_number.false))

pub returns-in-5 : goal.returns-in-5
returns-in-5 c = rw c.in-5.is (record { doc = _; is = text_so c.args.content.now (sym c.is_text.ensures ∙ c.if-is_text.true); wrote = c.put_string.ensures })

pub returns-in_default-2 : goal.returns-in_default-2
returns-in_default-2 c = rw c.in-5.is (text_not c.args.content.now (sym c.is_text.ensures ∙ c.if-is_text.false))

pub returns-in_default-3 : goal.returns-in_default-3
unfolding simple_of
returns-in_default-3 c = search picks
