-- `card::walk::breach_at` meets its contract. Assumes nothing.
use mathlib.Core.Path.{refl, sym, ◌∙◌}
use native.Mathlib.Omega.{arith}
use Rattle.text.specs.Doc.{doc_of}
use Rattle.text.proofs.Promise.{first_room}
use Rattle.json_reader.proofs.Seeking.{row_after_lem}
use Rattle.card.specs.Types.{type_at}
use Rattle.card.specs.Walk.{sheet_number, found_of}
use Rattle.card.proofs.Judging.Walk.{numbered, breach_free, breach_row, judging_starts, value_here, judging_some, judging_none, judging_ends}
use Rattle.card.proofs.walk.+breach_at.Goals as goal

pub returns-then-is_free : goal.returns-then-is_free
returns-then-is_free t c =
    λ f v k.
    let a = c.args in
    breach_free (type_at a.code) a.key a.row (doc_of a.on.now.text.now f) c.is_free.ensures c.if-is_free.true

pub returns-in-Some : goal.returns-in-Some
returns-in-Some t c =
    λ f v k.
    let a = c.args in
    breach_row (type_at a.code) a.key a.row (sheet_number c.in-Some.broken) (doc_of a.on.now.text.now f) (numbered c.in-Some.broken)
    (rw c.in-Some.is at (c.row_broken.ensures f v k))

pub loop-at-init : goal.loop-at-init
loop-at-init t c =
    let a = c.args in (
      judging_starts a.on.now.text.now a.on.now.table.now (type_at a.code) a.key a.row c.next_row-end.result
          (row_after_lem _ _ c.next_row-end.ensures (omega arith))
          (λ f v k. rw c.in_default.is at (c.row_broken.ensures f v k)),
      omega arith,
    )

pub breach_at-b-requires : goal.breach_at-b-requires
breach_at-b-requires t c =
    let p = c.requires in
    let q = p.1 in
    let h = c.loop-at.invariant.0 q.0 q.1 q.2 in
    (omega (arith, first_room q.0 q.1.some q.1.stands, c.loop-at.invariant.1), (p.0, (h.ahead, value_here h c.loop-at-test.true, h.kinds)))

pub returns-then-is_some : goal.returns-then-is_some
returns-then-is_some t c =
    λ f v k.
    let h = c.loop-at.invariant.0 f v k in
    let lt = c.loop-at-test.true in
    let typed = c.member_type-below.ensures h.ahead (value_here h lt) in
    let keyed = c.key_fits-allowed.ensures h.passed h.passes in
    let is = c.breach_at-b.ensures h.ahead (value_here h lt) h.kinds in
    judging_some h lt (type_at c.member_type-below.result) c.key_fits-allowed.result (found_of c.breach_at-b.result) typed keyed is
    c.breach_at-b.result refl (sym c.is_some.ensures ∙ c.if-is_some.true)

pub loop-at-smaller : goal.loop-at-smaller
loop-at-smaller t c = omega (arith, row_after_lem _ _ c.next_row-at.ensures (omega (arith, c.loop-at-test.true)))

pub loop-at-preserved : goal.loop-at-preserved
loop-at-preserved t c =
    let step = row_after_lem _ _ c.next_row-at.ensures (omega (arith, c.loop-at-test.true)) in (
      (λ f v k.
          let h = c.loop-at.invariant.0 f v k in
          let lt = c.loop-at-test.true in
          let typed = c.member_type-below.ensures h.ahead (value_here h lt) in
          let keyed = c.key_fits-allowed.ensures h.passed h.passes in
          let is = c.breach_at-b.ensures h.ahead (value_here h lt) h.kinds in
          rw step (judging_none h lt (type_at c.member_type-below.result) c.key_fits-allowed.result (found_of c.breach_at-b.result) typed keyed is
          c.breach_at-b.result refl (sym c.is_some.ensures ∙ c.if-is_some.false))),
      omega (arith, step, c.loop-at.invariant.1),
    )

pub returns : goal.returns
returns t c = λ f v k. judging_ends (c.loop-at.invariant.0 f v k) c.loop-at-test.false
