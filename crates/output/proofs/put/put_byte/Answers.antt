-- `output::put::put_byte` meets its contract: a store past the end changes nothing. Assumes nothing.
use mathlib.Core.Path.{refl, sym}
use native.Mathlib.Omega.{arith}
use lib.Seq.{set_out}
use Rattle.output.proofs.put.put_byte.Goals as goal

pub returns-then-at-ge-FULL : goal.returns-then-at-ge-FULL
returns-then-at-ge-FULL c =
    let a = c.args in
    record {
      to = record { exact = λ h. absurd (omega arith); past = λ h. omega arith };
      out = sym (set_out a.out.now a.at a.b (omega arith));
      fits = omega arith;
    }

pub returns-then-out-at : goal.returns-then-out-at
returns-then-out-at c =
    let a = c.args in
    record { to = record { exact = λ h. refl; past = λ h. h }; out = sym (set_out a.out.now a.at a.b c.if-out-at.true); fits = omega arith }
