-- By the verdict on the card, and then by what was made of it. Assumes nothing.
use lib.ListN.{length}
use Rattle.card.proofs.Localizing.{given_so, refused_so, fits_so, written_so}
use native.Mathlib.Omega.{arith}
use Rattle.card.proofs.localize.localize_in.Goals as goal

pub returns-in-Err : goal.returns-in-Err
returns-in-Err c =
    let a = c.args in
    let judge-kept = c.judge_kept in
    given_so a.language.now a.out.now (rw c.in-Err.is at judge-kept.ensures)

pub judge_written-requires : goal.judge_written-requires
judge_written-requires c =
    let a = c.args in
    let judge-kept = c.judge_kept in
    let compose-for = c.compose_for in
    fits_so (rw c.in_default.is at judge-kept.ensures) (omega arith) a.out.now a.language.now _ _
    (rw c.in-Ok.is at compose-for.ensures)

pub returns-in-Err-compose_for : goal.returns-in-Err-compose_for
returns-in-Err-compose_for c =
    let a = c.args in
    let judge-kept = c.judge_kept in
    let compose-for = c.compose_for in
    refused_so (rw c.in_default.is at judge-kept.ensures) (omega arith) a.out.now a.language.now _
    (rw c.in-Err-compose_for.is at compose-for.ensures) (c.fill.ensures.after (λ y e. e))

pub returns-in-Ok : goal.returns-in-Ok
returns-in-Ok c =
    let a = c.args in
    let out = a.out.now in
    let judge-kept = c.judge_kept in
    let compose-for = c.compose_for in
    written_so (rw c.in_default.is at judge-kept.ensures) (omega arith) out a.language.now _ _
    (rw c.in-Ok.is at compose-for.ensures) (c.judge_written.ensures (length out))
