-- `output::put::short_of` meets its contract: an arm of a byte makes `short_of` compute; the last is none of them. Assumes nothing.
use borrow.Author.Tests.{ne_eqb}
use Rattle.output.proofs.put.short_of.Goals as goal

pub returns-in_default : goal.returns-in_default
returns-in_default c =
    let r = c.in_default.in_default-own.rest in
    rw (
      ne_eqb _ 34 r.0.0.0.0.0.0.1,
      ne_eqb _ 92 r.0.0.0.0.0.1,
      ne_eqb _ 8 r.0.0.0.0.1,
      ne_eqb _ 9 r.0.0.0.1,
      ne_eqb _ 10 r.0.0.1,
      ne_eqb _ 12 r.0.1,
      ne_eqb _ 13 r.1,
    )

pub returns-in-34 : goal.returns-in-34
returns-in-34 c = rw c.in-34.is

pub returns-in-92 : goal.returns-in-92
returns-in-92 c = rw c.in-92.is

pub returns-in-8 : goal.returns-in-8
returns-in-8 c = rw c.in-8.is

pub returns-in-9 : goal.returns-in-9
returns-in-9 c = rw c.in-9.is

pub returns-in-10 : goal.returns-in-10
returns-in-10 c = rw c.in-10.is

pub returns-in-12 : goal.returns-in-12
returns-in-12 c = rw c.in-12.is

pub returns-in-13 : goal.returns-in-13
returns-in-13 c = rw c.in-13.is
