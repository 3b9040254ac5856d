-- `patch::writing::ends_first` meets its contract. Assumes nothing.
use mathlib.Core.Path.{◌≡◌, sym, ◌∙◌}
use Prim.Native.Nat.{ℕ}
use native.Mathlib.Omega.{arith}
use lib.ListN.{get_or}
use Rattle.patch.specs.Children.{key_bytes}
use Rattle.patch.proofs.Putting.Meeting.{point_in}
use Rattle.patch.proofs.Putting.Additions.{first_said}
use Rattle.patch.proofs.Putting.Patches.{goes_last, ends_by, no_end}
use Rattle.patch.proofs.writing.ends_first.Goals as goal

pub returns-then-hi-lo : goal.returns-then-hi-lo
returns-then-hi-lo c = record { some = λ e. let z : ◌≡◌ {A = ℕ} 0 1 = cc in absurd (omega arith); is = λ parts ms s w. no_end s c.if-hi-lo.true }

pub returns : goal.returns
returns c =
    let a = c.args in
    let there = c.if-hi-lo.false in
    let pt = a.ptext.now in
    let key = key_bytes pt a.ptable.now (get_or a.rows.now a.lo 0) in
    record {
      some = λ e. there;
      is =
          λ parts ms s w.
          let f = first_said s there in
          let follows = rw c.key_at-key.ensures at c.after_part.ensures.goes_at in
          ends_by pt f
          (goes_last key c.after_part.result ((w a.lo (omega arith) there).left ∙ point_in pt a.rows.now parts a.lo f.value) follows
          ∙ sym c.is_nothing.ensures);
    }

pub overflow_cast-rows : goal.overflow_cast-rows
overflow_cast-rows c = omega (arith, c.type_inv.rows c.args.lo)

pub overflow_cast-cues : goal.overflow_cast-cues
overflow_cast-cues c = omega (arith, c.type_inv.cues c.args.lo)
