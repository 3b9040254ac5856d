-- `formats::counts::is_count` meets its contract: digit by digit, after digits of a value that is not too large. Assumes nothing.
use mathlib.Core.Path.{sym, ap, ◌∙◌}
use native.Mathlib.Omega.{arith}
use lib.ListN.{get_or, drop_of_length-le}
use Rattle.laws.proofs.Picks.{picks}
use Rattle.formats.proofs.Laws.Counts.{ascii_digit, digits_from, count_after, count_start, count_end, count_on, count_other, count_over}
use Rattle.formats.proofs.counts.is_count.Goals as goal

pub loop-b-init : goal.loop-b-init
loop-b-init c = (sym (count_start _ _ _), omega arith)

pub returns-then-value-low : goal.returns-then-value-low
returns-then-value-low c =
    let a = c.args in
    let loop = c.loop-b in
    sym (sym loop.invariant.0 ∙ ap (count_after a.low a.high loop.value) (drop_of_length-le a.token.now c.loop-b-test.false)
    ∙ count_end _ _ _ loop.invariant.1 ∙ search picks)

pub returns : goal.returns
returns c =
    let a = c.args in
    let loop = c.loop-b in
    sym (sym loop.invariant.0 ∙ ap (count_after a.low a.high loop.value) (drop_of_length-le a.token.now c.loop-b-test.false)
    ∙ count_end _ _ _ loop.invariant.1 ∙ search picks)

pub loop-b-preserved : goal.loop-b-preserved
loop-b-preserved c =
    let a = c.args in
    let loop = c.loop-b in
    let t = a.token.now in (
      sym (count_on _ _ _ _ _ (ascii_digit (get_or t loop.b-index 0) c.is_ascii_digit.ensures.value ∙ c.if-not-is_ascii_digit.false))
          ∙ ap (count_after a.low a.high loop.value) (sym (digits_from t loop.b-index c.loop-b-test.true)) ∙ loop.invariant.0,
      omega arith,
    )

pub returns-then-value-gt-LARGEST : goal.returns-then-value-gt-LARGEST
returns-then-value-gt-LARGEST c =
    let a = c.args in
    let loop = c.loop-b in
    let t = a.token.now in
    sym (sym loop.invariant.0 ∙ ap (count_after a.low a.high loop.value) (digits_from t loop.b-index c.loop-b-test.true)
    ∙ count_on _ _ _ _ _ (ascii_digit (get_or t loop.b-index 0) c.is_ascii_digit.ensures.value ∙ c.if-not-is_ascii_digit.false)
    ∙ count_over _ _ _ _ c.if-value-gt-LARGEST.true)

pub returns-then-not-is_ascii_digit : goal.returns-then-not-is_ascii_digit
returns-then-not-is_ascii_digit c =
    let a = c.args in
    let loop = c.loop-b in
    let t = a.token.now in
    sym (sym loop.invariant.0 ∙ ap (count_after a.low a.high loop.value) (digits_from t loop.b-index c.loop-b-test.true)
    ∙ count_other _ _ _ _ _ (ascii_digit (get_or t loop.b-index 0) c.is_ascii_digit.ensures.value ∙ c.if-not-is_ascii_digit.true))
