-- The measures of the writers of a member's value, a member and a value: three times the rows that are left of the table, and one more
-- inside a member, and two for it. And the loop of `put_value`, a walk along the members. Assumes nothing.
use Prim.Native.Nat.{ℕ, ◌+◌, ◌-◌, ◌*◌}
use mathlib.Core.Path.{◌≡◌}
use mathlib.Core.Bool.{Bool, true}
use lib.ListN.{length}
use Rattle.text.specs.Tree.{Forest}
use Rattle.text.specs.Firsts.{inside_at}
use Rattle.text.specs.Doc.{Members}
use Rattle.contact.specs.Patch.{added}
use Rattle.patch.specs.Entries.{stripped}
use Rattle.patch.specs.Tails.{BeginAlike}
use Rattle.patch.specs.Marks.{Waiting}
use Rattle.patch.specs.Patched.{Said, BaseAt, Elsewhere}
use Rattle.patch.proofs.Putting.Walks.{Passing}
use Rattle.patch.proofs.Putting.Patches.{rest_by}
use Rattle.patch.proofs.Putting.Objects.{members_in, MeetWalk}
use Rattle.patch.proofs.writing.+put_inside_put_member_put_value.Given as goal

abbrev pub decreases-put_inside : goal.decreases-put_inside
decreases-put_inside l = 3 * (length l.table.now - l.row) + 1

abbrev pub decreases-put_member : goal.decreases-put_member
decreases-put_member l = 3 * (length l.table.now - l.row) + 2

abbrev pub decreases-put_value : goal.decreases-put_value
decreases-put_value l = 3 * (length l.table.now - l.row)

abbrev pub invariant-put_value-loop-m : goal.invariant-put_value-loop-m
invariant-put_value-loop-m l =
    (Passing l.row l.end l.m l.initial.out l.out
    × ((length l.cues ≡ length l.initial.cues) × (length l.walks ≡ length l.initial.walks))
    × Elsewhere l.run.lo l.run.hi l.initial.cues l.cues l.initial.walks l.walks)
    × ((root : Bool) (g : Forest) (ms : Members) (parts : ℕ) → BaseAt l.text l.table l.leave l.row root g
    → Said l.ptext l.ptable l.rows l.run.lo l.run.hi parts ms → BeginAlike l.ptext l.ptable l.rows l.run.hi l.shared
    → Waiting l.ptext l.ptable l.rows l.initial.cues l.run.lo l.run.hi parts
    → let es = stripped parts ms in
    let all = members_in root l.text g in
    let more = added all es in
    MeetWalk l.text l.table l.ptext l.ptable l.rows l.run.lo l.run.hi parts root es all l.leave l.end l.initial.out l.p
    (rest_by l.text root es more (inside_at g) true) l.cues l.walks l.out l.s l.m)

abbrev pub decreases-put_value-loop-m : goal.decreases-put_value-loop-m
decreases-put_value-loop-m l = l.end - l.m
