-- `formats::dates::in_range` meets its contract: the numbers are those of the definition, tested in its order. Assumes nothing.
use native.Mathlib.Omega.{arith}
use borrow.Author.Tests.{lt-ltb, le-ltb}
use Rattle.contact.specs.Dates.{in_range}
use Rattle.formats.proofs.dates.in_range.Goals as goal

pub returns-then-two_at-gt59 : goal.returns-then-two_at-gt59
unfolding in_range
returns-then-two_at-gt59 c =
    let two_at = c.two_at in
    let two-at2 = c.two_at-2 in
    let two-at3 = c.two_at-3 in
    let two-at4 = c.two_at-4 in
    let is-day = c.is_day in
    let if1 = c.if-not-is_day in
    let two-at5 = c.two_at-5 in
    rw (
      ← two_at.ensures.0,
      ← two-at2.ensures.0,
      ← two-at3.ensures.0,
      ← two-at4.ensures.0,
      ← is-day.ensures,
      if1.false,
      ← two-at5.ensures.0,
      lt-ltb two-at5.result 24 (omega arith),
      ← c.two_at-6.ensures.0,
      le-ltb c.two_at-6.result 60 c.if-two_at-gt59.true,
    )

pub returns : goal.returns
unfolding in_range
returns c =
    let two_at = c.two_at in
    let two-at2 = c.two_at-2 in
    let two-at3 = c.two_at-3 in
    let two-at4 = c.two_at-4 in
    let is-day = c.is_day in
    let if1 = c.if-not-is_day in
    let two-at5 = c.two_at-5 in
    let two-at6 = c.two_at-6 in
    rw (
      ← two_at.ensures.0,
      ← two-at2.ensures.0,
      ← two-at3.ensures.0,
      ← two-at4.ensures.0,
      ← is-day.ensures,
      if1.false,
      ← two-at5.ensures.0,
      lt-ltb two-at5.result 24 (omega arith),
      ← two-at6.ensures.0,
      lt-ltb two-at6.result 60 (omega arith),
      ← c.two_at-7.ensures.0,
    )

pub returns-then-two_at-gt23 : goal.returns-then-two_at-gt23
unfolding in_range
returns-then-two_at-gt23 c =
    let two_at = c.two_at in
    let two-at2 = c.two_at-2 in
    let two-at3 = c.two_at-3 in
    let two-at4 = c.two_at-4 in
    let is-day = c.is_day in
    rw (
      ← two_at.ensures.0,
      ← two-at2.ensures.0,
      ← two-at3.ensures.0,
      ← two-at4.ensures.0,
      ← is-day.ensures,
      c.if-not-is_day.false,
      ← c.two_at-5.ensures.0,
      le-ltb c.two_at-5.result 24 c.if-two_at-gt23.true,
    )

pub returns-then-not-is_day : goal.returns-then-not-is_day
unfolding in_range
returns-then-not-is_day c =
    let two_at = c.two_at in
    let two-at2 = c.two_at-2 in
    let two-at3 = c.two_at-3 in
    rw (
      ← two_at.ensures.0,
      ← two-at2.ensures.0,
      ← two-at3.ensures.0,
      ← c.two_at-4.ensures.0,
      ← c.is_day.ensures,
      c.if-not-is_day.true,
    )
