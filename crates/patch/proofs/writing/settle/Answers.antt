-- `patch::writing::settle` meets its contract: by what follows the part at hand. Assumes nothing.
use Prim.Native.Nat.{ℕ}
use mathlib.Core.Path.{◌≡◌, sym, ap, ◌∙◌}
use mathlib.Core.List.{List}
use mathlib.Core.Option.{none}
use native.Mathlib.Omega.{arith}
use lib.ListN.{get_or}
use lib.Seq.{get_or-set_same}
use Rattle.text.specs.Tree.{Forest}
use Rattle.text.specs.Doc.{object, Members, empty, seek, doc_of}
use Rattle.contact.specs.Pointer.{Pointer, first_part}
use Rattle.contact.specs.Patch.{change_of, walk}
use Rattle.json_reader.specs.Lookup.{KnownAt}
use Rattle.patch.specs.Children.{key_bytes}
use Rattle.patch.specs.Conditions.{walk_code}
use Rattle.pointers.specs.Parts.{GoesAt}
use Rattle.patch.specs.Marks.{left_of, Mark}
use Rattle.patch.specs.Patched.{pointer_in}
use Rattle.patch.proofs.Listing.Marks.{around_start, set_around}
use Rattle.patch.proofs.Putting.Kept.{passed_none, adds_down}
use Rattle.patch.proofs.Putting.Patches.{ended_by, gone_by}
use Rattle.patch.proofs.Putting.Meeting.{waits_by, point_in, adds_lacking, walk_ends, walk_lost}
use Rattle.patch.proofs.writing.settle.Goals as goal

-- what follows the part at hand, what is left of the key, and that there is no member of its name
follows : (c : goal.After-slice_known-then-is_nothing-1) {t table : List ℕ} {parts : ℕ} {all : Members} {h : Forest}
    → let a = c.args in
    let pt = a.ptext.now in
    let key = key_bytes pt a.ptable.now (get_or a.rows.now a.i 0) in
    KnownAt a.ptable.now (get_or a.rows.now a.i 0) h
    → Mark t table pt a.ptable.now a.rows.now a.cues.now a.walks.now parts all empty a.i
    → GoesAt key (pointer_in pt parts h) c.after_part.result
    × (left_of pt a.ptable.now a.rows.now a.i (get_or a.cues.now a.i 0) ≡ pointer_in pt parts h)
    × (seek (first_part (pointer_in pt parts h)) all ≡ none)
follows c {parts = parts} {h = h} v m =
    let a = c.args in
    let pt = a.ptext.now in
    let w = waits_by m c.requires.2 in
    let here = point_in pt a.rows.now parts a.i v in
    let left = w.0.left ∙ here in
    (rw left at (rw c.key_at.ensures at c.after_part.ensures.goes_at), left, rw here at w.1)

pub returns-then-is_nothing : goal.returns-then-is_nothing
returns-then-is_nothing c =
    let a = c.args in
    let pt = a.ptext.now in
    let key = key_bytes pt a.ptable.now (get_or a.rows.now a.i 0) in
    record {
      around = set_around 0 (omega arith) (around_start a.walks.now a.i);
      is =
          λ t table parts all h v m.
          let f = follows c v m in
          let p = pointer_in pt parts h in
          let d = doc_of pt h in
          let ends = ended_by key c.after_part.result f.0 (sym c.is_nothing.ensures ∙ c.if-is_nothing.true) in
          let put = rw f.1 at (c.put_addition.ensures h d v) in (
            rw (adds_lacking all p (change_of d) d f.2 ends) put,
            get_or-set_same a.walks.now a.i 0 0 c.requires.1 ∙ sym (ap walk_code (walk_ends all (point_in pt a.rows.now parts a.i v ∙ ends))),
          );
    }

-- what follows the part at hand, what is left of the key, and that there is no member of its name
follows_2 : (c : goal.Else-is_nothing) {t table : List ℕ} {parts : ℕ} {all : Members} {h : Forest}
    → let a = c.args in
    let pt = a.ptext.now in
    let key = key_bytes pt a.ptable.now (get_or a.rows.now a.i 0) in
    KnownAt a.ptable.now (get_or a.rows.now a.i 0) h
    → Mark t table pt a.ptable.now a.rows.now a.cues.now a.walks.now parts all empty a.i
    → GoesAt key (pointer_in pt parts h) c.after_part.result
    × (left_of pt a.ptable.now a.rows.now a.i (get_or a.cues.now a.i 0) ≡ pointer_in pt parts h)
    × (seek (first_part (pointer_in pt parts h)) all ≡ none)
follows_2 c {parts = parts} {h = h} v m =
    let a = c.args in
    let pt = a.ptext.now in
    let w = waits_by m c.requires.2 in
    let here = point_in pt a.rows.now parts a.i v in
    let left = w.0.left ∙ here in
    (rw left at (rw c.key_at.ensures at c.after_part.ensures.goes_at), left, rw here at w.1)

pub returns : goal.returns
returns c =
    let a = c.args in
    let pt = a.ptext.now in
    let key = key_bytes pt a.ptable.now (get_or a.rows.now a.i 0) in
    record {
      around = set_around 2 (omega arith) (around_start a.walks.now a.i);
      is =
          λ t table parts all h v m.
          let f = follows_2 c v m in
          let p = pointer_in pt parts h in
          let goes = gone_by key c.after_part.result f.0 (sym c.is_nothing.ensures ∙ c.if-is_nothing.false) in
          let here = point_in pt a.rows.now parts a.i v in (
            passed_none a.from (omega (arith, c.well_formed.1.1.1.1.1.1.0.1)) (adds_down all p (change_of (doc_of pt h)) goes.1),
            get_or-set_same a.walks.now a.i 2 0 c.requires.1 ∙ sym (ap walk_code (ap (λ (q : Pointer). walk q (object all)) here ∙ walk_lost all f.2 goes.1)),
          );
    }

pub overflow_cast-e : goal.overflow_cast-e
overflow_cast-e c = omega (arith, c.type_inv.rows c.args.i)
