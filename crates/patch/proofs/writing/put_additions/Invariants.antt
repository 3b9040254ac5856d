-- The loop of `patch::writing::put_additions`, a walk along the entries of the run. Assumes nothing.
use Prim.Native.Nat.{ℕ, ◌-◌, ◌≤◌}
use mathlib.Core.List.{List}
use Rattle.text.specs.Doc.{object, Members, empty}
use Rattle.text.specs.Writing.{written_members}
use Rattle.contact.specs.Patch.{added}
use Rattle.patch.specs.Entries.{stripped}
use Rattle.patch.specs.Conditions.{Walked}
use Rattle.patch.specs.Marks.{Around, Marked}
use Rattle.patch.specs.Patched.{Said}
use Rattle.patch.specs.declared.writing.Pen.{Pen}
use Rattle.patch.proofs.Putting.Additions.{Adding}
use Rattle.patch.proofs.writing.put_additions.Given as goal

-- the entries from lo up to i are settled: what is left to add is what those after them add
abbrev pub SettledTo : (pt ptable rows cues before old : List ℕ) (lo hi : ℕ) (from : Pen) (walks out : List ℕ) (i : ℕ) (s : Pen) → Type 0
SettledTo pt ptable rows cues before old lo hi from walks out i s =
    ((lo ≤ i) × (i ≤ hi) × Around before lo i walks)
    × ((t table : List ℕ) (parts : ℕ) (all ms : Members) → Said pt ptable rows lo hi parts ms
    → Marked t table pt ptable rows cues before lo hi parts all empty
    → Adding pt ptable rows i hi parts all old from.to (written_members (added all (stripped parts ms)) from.first) out s
    × Walked pt ptable rows walks lo i parts (object all))

abbrev pub invariant-loop-i : goal.invariant-loop-i
invariant-loop-i l =
    SettledTo l.ptext l.ptable l.rows l.cues l.initial.walks l.initial.out l.initial.i l.hi l.initial.s l.walks l.out l.i l.s

abbrev pub decreases-loop-i : goal.decreases-loop-i
decreases-loop-i l = l.hi - l.i
