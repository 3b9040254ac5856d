-- `patch::writing::put_inside`, `put_member` and `put_value`, which call each other, meet their contracts. Assumes nothing.
use Prim.Native.Nat.{ℕ, ◌+◌, ◌*◌, ◌≤◌}
use mathlib.Core.Path.{◌≡◌, refl, sym, ap, ◌∙◌}
use mathlib.Core.Bool.{Bool, false, true}
use mathlib.Core.List.{List, [], ◌∷◌}
use mathlib.Core.Option.{some}
use native.Mathlib.Omega.{arith}
use borrow.Author.Tests.{eq-eqb}
use Rattle.text.specs.Limits.{row_words}
use Rattle.text.specs.Tree.{Forest}
use Rattle.text.specs.Firsts.{name_start, name_end, inside_at, rest_at}
use Rattle.text.specs.Strings.{name_of}
use Rattle.text.specs.Doc.{Name, object, members_of, label_at, doc_of}
use Rattle.text.proofs.Promise.{doc_kind, doc_object}
use Rattle.contact.specs.Patch.{under, applied, added}
use Rattle.json_reader.specs.Rows.{kind_in}
use Rattle.json_reader.proofs.Seeking.{row_after_lem, row_inside}
use Rattle.output.proofs.Bytes.{left_all, wrote_then}
use Rattle.patch.specs.Entries.{stripped}
use Rattle.patch.specs.Runs.{RunOf}
use Rattle.patch.specs.Marks.{RunCued}
use Rattle.patch.specs.Patched.{based_all, BaseAt}
use Rattle.patch.specs.declared.runs.Run.{Run}
use Rattle.patch.proofs.Listing.Marks.{around_all, around_join, around_part}
use Rattle.patch.proofs.Listing.Steps.{alike_part}
use Rattle.patch.proofs.Putting.Additions.{first_said}
use Rattle.patch.proofs.Putting.Copies.{label_is}
use Rattle.patch.proofs.Putting.Kept.{passed_none, passed_some, based_object, based_members, based_other}
use Rattle.patch.proofs.Putting.Leaving.{out_inside}
use Rattle.patch.proofs.Putting.Objects.{stray_walked, members_in, meet_start, meet_here, meet_turn, meet_end}
use Rattle.patch.proofs.Putting.Passing.{waiting_on, passed_out, staying, gone_all, passed_ending, passed_going}
use Rattle.patch.proofs.Putting.Patches.{idle_value, stays_out, stays_ends, stays_goes, said_further, rest_by, patch_here, patch_end}
use Rattle.patch.proofs.Putting.Walks.{value_row, walk_here}
use Rattle.patch.proofs.writing.+put_inside_put_member_put_value.Goals as goal

-- ---- inside a member

pub put_inside-returns-then-own : goal.put_inside-returns-then-own
put_inside-returns-then-own t c =
    let a = c.args in
    record {
      elsewhere = (around_all _ _ _, around_all _ _ _);
      is =
          λ n g ms parts base s alike w go.
          let d = doc_of a.text.now g in
          let none : a.own.hi ≤ a.own.lo = omega (arith, c.if-own.true) in
          let as_is = idle_value (parts + 1) d none s.listed in (
            rw c.behind.ensures (passed_some d (ap some as_is) c.put_head-p.ensures (c.copy_value-to.ensures g base.value)),
            λ i x y. absurd (omega arith),
            λ i x y. absurd (omega arith),
          );
    }

pub put_inside-put_value-to-requires : goal.put_inside-put_value-to-requires
put_inside-put_value-to-requires t c = let p = c.requires in (omega arith, ((p.0.0, omega (arith, p.0.1, c.advance.auto.cues)), p.1))

pub put_inside-meet-requires : goal.put_inside-meet-requires
put_inside-meet-requires t c = let p = c.requires in (p.0.0.0, omega (arith, p.0.1, c.advance.auto.cues, c.put_value-to.auto.cues))

pub put_inside-returns : goal.put_inside-returns
put_inside-returns t c =
    let a = c.args in
    let advance = c.advance.ensures in
    let meet = c.meet.ensures in
    let value = c.put_value-to.ensures in
    record {
      elsewhere = (around_join (around_join advance.around value.elsewhere.0) meet.filled.around, value.elsewhere.1);
      is =
          λ n g ms parts base s alike w go.
          let d = doc_of a.text.now g in
          let wrote = value.is false g ms (parts + 1) base s alike (waiting_on go s.short w (advance.all alike)) in (
            rw c.behind-2.ensures (passed_some (applied d (stripped (parts + 1) ms)) refl c.put_head-p.ensures wrote.0),
            wrote.1,
            λ i x y. meet.filled.within i x y ∙ meet.is (omega (arith, base.few)),
          );
    }

-- ---- a member

-- the run for the member is in the lists
in_rows : {t table pt ptable rows cues : List ℕ} {lo hi : ℕ} {n : Name} {r : Run} → RunOf t table pt ptable rows cues lo hi n r
    → RunCued rows cues lo hi → RunCued rows cues r.lo r.hi
in_rows run p = ((run.to.low, omega (arith, run.to.high, p.0.1)), omega (arith, run.to.high, p.1))

pub put_member-returns-then-row-leave : goal.put_member-returns-then-row-leave
put_member-returns-then-row-leave t c =
    let a = c.args in
    record {
      elsewhere = (around_all _ _ _, around_all _ _ _);
      is =
          λ root g ms parts all v o few s alike ahead m.
          let text = a.text.now in
          let out = o.is ∙ eq-eqb a.row a.leave c.if-row-leave.true in (
            passed_none a.from (omega arith) (stays_out root (name_of text (name_start g) (name_end g)) (stripped parts ms) (doc_of text g) out),
            passed_out root text v out m,
          );
    }

pub put_member-run_of-own-requires : goal.put_member-run_of-own-requires
put_member-run_of-own-requires t c = c.requires.0

pub put_member-ends_first-requires : goal.put_member-ends_first-requires
put_member-ends_first-requires t c = in_rows c.run_of-own.ensures c.requires.0

-- there is an entry that ends there
pub put_member-offset_bounds-rows-lo : goal.put_member-offset_bounds-rows-lo
put_member-offset_bounds-rows-lo t c =
    let there = c.ends_first.ensures.some c.if-ends_first.true in
    let r = in_rows c.run_of-own.ensures c.requires.0 in
    omega arith

pub put_member-bounds-rows-lo : goal.put_member-bounds-rows-lo
put_member-bounds-rows-lo t c =
    let there = c.ends_first.ensures.some c.if-ends_first.true in
    let r = in_rows c.run_of-own.ensures c.requires.0 in
    omega arith

pub put_member-put_replaced-requires : goal.put_member-put_replaced-requires
put_member-put_replaced-requires t c =
    let run = c.run_of-own.ensures in
    let r = in_rows run c.requires.0 in
    ((r.0.0, r.1), (r.0.0, omega (arith, run.to.high, c.requires.1)))

pub put_member-returns-then-ends_first : goal.put_member-returns-then-ends_first
put_member-returns-then-ends_first t c =
    let a = c.args in
    let run = c.run_of-own.ensures in
    let ends_first = c.ends_first.ensures in
    let taken = c.if-ends_first.true in
    let replaced = c.put_replaced.ensures in
    record {
      elsewhere = (around_part run.from.low run.to.high replaced.marked.filled.around, around_part run.from.low run.to.high replaced.ended.around);
      is =
          λ root g ms parts all v o few s alike ahead m.
          let text = a.text.now in
          let table = a.table.now in
          let n = name_of text (name_start g) (name_end g) in
          let d = doc_of text g in
          let k = staying text table a.ptext.now a.ptable.now a.rows.now root v o c.if-row-leave.false s ahead m run in
          let ends = sym taken ∙ ends_first.is parts k.mid.run k.mid.said k.waiting in
          let f = first_said k.mid.said (ends_first.some taken) in
          let put = rw c.hinted-s.ensures at (replaced.is f.tree (applied d (under n (stripped parts ms))) f.value) in (
            rw (stays_ends k.mid root d k.stays_in f ends, ← label_is text v) (record { wrote = put.wrote; next = put.next }),
            passed_ending text table a.ptext.now a.ptable.now a.rows.now (label_at text (name_start g) (name_end g)) d all
                (based_all root (members_of text (rest_at g))) k.mid k.ahead k.marked a.row (omega arith) k.name ends replaced.marked replaced.ended,
          );
    }

pub put_member-put_inside-requires : goal.put_member-put_inside-requires
put_member-put_inside-requires t c =
    let run = c.run_of-own.ensures in
    (omega arith, (in_rows run c.requires.0, omega (arith, run.to.high, c.requires.1)))

pub put_member-returns : goal.put_member-returns
put_member-returns t c =
    let a = c.args in
    let run = c.run_of-own.ensures in
    let inside = c.put_inside.ensures in
    record {
      elsewhere = (around_part run.from.low run.to.high inside.elsewhere.0, around_part run.from.low run.to.high inside.elsewhere.1);
      is =
          λ root g ms parts all v o few s alike ahead m.
          let text = a.text.now in
          let table = a.table.now in
          let n = name_of text (name_start g) (name_end g) in
          let d = doc_of text g in
          let k = staying text table a.ptext.now a.ptable.now a.rows.now root v o c.if-row-leave.false s ahead m run in
          let goes = sym c.if-ends_first.false ∙ c.ends_first.ensures.is parts k.mid.run k.mid.said k.waiting in
          let base : BaseAt text table a.leave a.row false g = record { value = v; out = out_inside text g o; distinct = k.ahead.distinct.1; few = few } in
          let done = inside.is n g k.mid.run parts base (said_further k.mid root d k.stays_in goes) (alike_part run.to.high alike)
          k.waiting (gone_all k.mid goes) in
          let put = rw c.hinted-s.ensures at done.0 in (
            rw (stays_goes k.mid root d k.stays_in goes, ← label_is text v) (record { wrote = put.wrote; next = put.next }),
            passed_going text table a.ptext.now a.ptable.now a.rows.now (label_at text (name_start g) (name_end g)) d all
                (based_all root (members_of text (rest_at g))) k.mid k.ahead k.marked a.row (omega arith) k.name goes inside.elsewhere.0 done.2
                inside.elsewhere.1 done.1,
          );
    }

-- ---- a value

-- the value is an object
is_object : {text table : List ℕ} {leave row kind : ℕ} {root : Bool} {g : Forest} → BaseAt text table leave row root g
    → kind ≡ kind_in table row → kind ≡ 7 → doc_of text g ≡ object (members_of text (inside_at g))
is_object {text} {g = g} b k e = let v = b.value in doc_object text g v.some v.kinds (sym (value_row v).kind ∙ sym k ∙ e)

pub put_value-end_all-requires : goal.put_value-end_all-requires
put_value-end_all-requires t c = let p = c.requires in (p.0.0.0, p.1)

pub put_value-returns-then-k-ne-OBJECT : goal.put_value-returns-then-k-ne-OBJECT
put_value-returns-then-k-ne-OBJECT t c =
    let a = c.args in
    let text = a.text.now in
    let kind = c.kind-k.ensures in
    let taken = c.if-k-ne-OBJECT.true in
    let ended = c.end_all.ensures in
    record {
      elsewhere = (around_all _ _ _, ended.around);
      is =
          λ root g ms parts b s alike w.
          let v = b.value in
          let filled = rw (c.stray_of.ensures, kind, (value_row v).kind) at ended in (
            rw (based_other root (doc_of text g) (stripped parts ms) (λ e. taken (kind ∙ (value_row v).kind ∙ sym (doc_kind text g v.some) ∙ e)))
                (c.copy_value.ensures g v),
            stray_walked root text a.ptext.now a.ptable.now a.rows.now parts g v (λ e. taken (kind ∙ (value_row v).kind ∙ e)) filled,
          );
    }

-- the row is one of the table, and the rows inside the value end at one
pub put_value-overflow_add-m : goal.put_value-overflow_add-m
put_value-overflow_add-m t c =
    let a = c.args in
    let i = row_inside a.table.now a.row (omega (arith, c.kind-k.ensures, c.if-k-ne-OBJECT.false)) in
    omega arith

pub put_value-loop-m-init : goal.put_value-loop-m-init
put_value-loop-m-init t c =
    let a = c.args in
    let text = a.text.now in
    let i = row_inside a.table.now a.row (omega (arith, c.kind-k.ensures, c.if-k-ne-OBJECT.false)) in
    let e = row_after_lem a.table.now a.row c.next_row-end.ensures (omega arith) in
    let word = c.type_inv.table (a.row * row_words + 5) in (
      (record { later = omega arith; near = omega arith; long = refl }, (refl, refl), (around_all _ _ _, around_all _ _ _)),
      λ root g ms parts b s alike w.
          meet_start text a.table.now a.ptext.now a.ptable.now a.rows.now a.walks.now parts root (stripped parts ms) b
          (is_object b c.kind-k.ensures c.if-k-ne-OBJECT.false) e w left_all,
    )

pub put_value-put_member-s-requires : goal.put_value-put_member-s-requires
put_value-put_member-s-requires t c =
    let a = c.args in
    let i = row_inside a.table.now a.row (omega (arith, c.kind-k.ensures, c.if-k-ne-OBJECT.false)) in
    let p = c.requires in
    let l = c.loop-m.invariant.0 in
    (omega (arith, l.0.later), ((p.0.0, omega (arith, p.0.1, l.1.0)), omega (arith, p.1, l.1.1)))

-- the row of the next member
pub put_value-loop-m-smaller : goal.put_value-loop-m-smaller
put_value-loop-m-smaller t c =
    let near = c.loop-m.invariant.0.0.near in
    let e = row_after_lem c.args.table.now c.loop-m.m c.next_row-m.ensures (omega (arith, c.loop-m-test.true)) in
    omega (arith, c.loop-m-test.true)

pub put_value-loop-m-preserved : goal.put_value-loop-m-preserved
put_value-loop-m-preserved t c =
    let a = c.args in
    let text = a.text.now in
    let inv = c.loop-m.invariant in
    let taken = c.loop-m-test.true in
    let member = c.put_member-s in
    let near = inv.0.0.near in
    let e = row_after_lem a.table.now c.loop-m.m c.next_row-m.ensures (omega arith) in (
      (
        record { later = omega (arith, inv.0.0.later); near = near; long = member.auto.out ∙ inv.0.0.long },
        (member.auto.cues ∙ inv.0.1.0, member.auto.walks ∙ inv.0.1.1),
        (around_join inv.0.2.0 member.ensures.elsewhere.0, around_join inv.0.2.1 member.ensures.elsewhere.1),
      ),
      λ root g ms parts b s alike w.
          let es = stripped parts ms in
          let all = members_in root text g in
          let k = inv.1 root g ms parts b s alike w in
          let here = k.walk.walk.values in
          let done = member.ensures.is root here ms parts all (walk_here k.walk.walk taken) (patch_here text root es (added all es) k.walk taken)
          (meet_here text a.table.now a.ptext.now a.ptable.now a.rows.now a.run.lo a.run.hi parts root es all a.leave _ _ _ _ k taken)
          s alike k.ahead k.marked in
          meet_turn text a.table.now a.ptext.now a.ptable.now a.rows.now a.run.lo a.run.hi parts root es all a.leave _ _ _ _ k taken
          done.0 done.1 c.next_row-m.result e,
    )

pub put_value-put_additions-requires : goal.put_value-put_additions-requires
put_value-put_additions-requires t c =
    let p = c.requires in
    let l = c.loop-m.invariant.0.1 in
    ((p.0.0, omega (arith, p.0.1, l.0)), omega (arith, p.1, l.1))

pub put_value-shape_of-cues : goal.put_value-shape_of-cues
put_value-shape_of-cues t c = c.loop-m.invariant.0.1.0

pub put_value-shape_of-walks : goal.put_value-shape_of-walks
put_value-shape_of-walks t c = c.put_additions.auto.walks ∙ c.loop-m.invariant.0.1.1

pub put_value-shape_of-out : goal.put_value-shape_of-out
put_value-shape_of-out t c = c.put_additions.auto.out ∙ c.loop-m.invariant.0.0.long ∙ c.put_byte-p.auto.out

pub put_value-returns : goal.put_value-returns
put_value-returns t c =
    let a = c.args in
    let text = a.text.now in
    let inv = c.loop-m.invariant in
    let left = c.loop-m-test.false in
    let additions = c.put_additions.ensures in
    record {
      elsewhere = (inv.0.2.0, around_join inv.0.2.1 additions.around);
      is =
          λ root g ms parts b s alike w.
          let es = stripped parts ms in
          let all = members_in root text g in
          let k = inv.1 root g ms parts b s alike w in
          let is = is_object b c.kind-k.ensures c.if-k-ne-OBJECT.false in
          let done = additions.is text a.table.now parts all ms s
          (meet_end text a.table.now a.ptext.now a.ptable.now a.rows.now a.run.lo a.run.hi parts root es all a.leave _ _ _ _ k left) in (
            rw (is, based_object root (members_of text (inside_at g)) es) (wrote_then (123 ∷ []) (rest_by text root es (added all es) (inside_at g) true)
                c.put_byte-p.ensures
                (patch_end text root es (added all es) k.walk left done.0)),
            rw (is, based_members root (members_of text (inside_at g))) done.1,
          );
    }
