-- `patch::writing::put_additions` meets its contract: a walk along the entries of the run. Assumes nothing.
use Prim.Native.Nat.{ℕ, ◌+◌, ◌<◌}
use mathlib.Core.Path.{◌≡◌, refl}
use mathlib.Core.List.{List}
use native.Mathlib.Omega.{arith}
use Rattle.text.specs.Doc.{object}
use Rattle.patch.specs.Patched.{Settled}
use Rattle.patch.specs.declared.writing.Pen.{Pen}
use Rattle.patch.proofs.Listing.Marks.{around_start, around_next}
use Rattle.output.proofs.Bytes.{left_all}
use Rattle.patch.proofs.Putting.Additions.{first_said, settled_met, adding_on, adding_end}
use Rattle.patch.proofs.Putting.Meeting.{mark_same, walked_next}
use Rattle.patch.proofs.writing.put_additions.Invariants.{SettledTo}
use Rattle.patch.proofs.writing.put_additions.Goals.{then-cue-lt-MET, else-cue-lt-MET}
use Rattle.patch.proofs.writing.put_additions.Goals as goal

pub loop-i-init : goal.loop-i-init
loop-i-init c = (
  (omega arith, omega (arith, c.requires.0.0), around_start _ _),
  λ t table parts all ms h m. (record { rest = ms; said = h; left = left_all }, λ i x y. absurd (omega arith)),
)

-- once one more is settled
turn : (before old : List ℕ) (lo hi : ℕ) (from : Pen) {pt ptable rows cues walks walks' out out' : List ℕ} {i : ℕ} {s s' : Pen}
    → SettledTo pt ptable rows cues before old lo hi from walks out i s → i < hi → Settled pt ptable rows cues i walks walks' out s out' s'
    → SettledTo pt ptable rows cues before old lo hi from walks' out' (i + 1) s'
turn before old lo hi from {pt} {ptable} {rows} {i = i} inv taken settled = (
  (omega (arith, inv.0), omega arith, around_next inv.0.0 inv.0.2 settled.around),
  λ t table parts all ms h m.
      let w = inv.1 t table parts all ms h m in
      let f = first_said w.0.said taken in
      let mark = mark_same refl (inv.0.2.over i (omega arith)) (m i inv.0.0 taken) in
      let done = settled.is t table parts all f.tree f.value mark in
      (adding_on pt w.0 f done.0, walked_next pt ptable rows parts (object all) w.1 settled.around done.1),
)

pub loop-i-preserved : goal.loop-i-preserved
loop-i-preserved c =
    let a = c.args in
    let l = c.loop-i in
    let inv = l.invariant in
    let taken = c.loop-i-test.true in
    elim c.if-cue-lt-MET.branch [
      | then-cue-lt-MET w ↦ rw (w.walks-is, w.out-is, w.s-is) (turn a.walks.now a.out.now a.run.lo a.run.hi a.from inv taken w.settle-s.ensures)
      | else-cue-lt-MET w ↦
          rw (w.walks-is, w.out-is, w.s-is)
          (turn a.walks.now a.out.now a.run.lo a.run.hi a.from inv taken
          (settled_met a.ptext.now l.walks l.s (omega (arith, w.if-cue-lt-MET.false)) (omega arith)))
    ]

pub returns : goal.returns
returns c =
    let a = c.args in
    let inv = c.loop-i.invariant in
    let left = c.loop-i-test.false in
    let all_done : c.loop-i.i ≡ a.run.hi = omega (arith, inv.0) in
    record {
      around = rw all_done at inv.0.2;
      is =
          λ t table parts all ms h m.
          let w = inv.1 t table parts all ms h m in
          (adding_end a.ptext.now w.0 left c.put_byte.ensures, rw all_done at w.1);
    }
