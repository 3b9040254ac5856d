-- The card was written, and then it was told what the walks come to. Assumes nothing.
use Rattle.text.specs.Doc.{doc_of}
use Rattle.contact.specs.Localize.{start}
use Rattle.patch.proofs.Drafting.Compose.{put_astray, put_fitting}
use Rattle.std.proofs.lemmas.Result.{err_from_is_err_and}
use Rattle.patch.proofs.compose.put_sorted.Goals as goal

pub returns-in_err-first_astray : goal.returns-in_err-first_astray
returns-in_err-first_astray c =
    let card = c.args.card.now in
    let p' = err_from_is_err_and c.from_residual.result c.from_residual.ensures.1 in
    rw (p'.1, p'.2)
    (put_astray
    (λ place g ms b s alike p. let (w, walked) = c.put_card-count.ensures g ms b s alike in
    (w, c.first_astray.ensures place (start (doc_of card g)) ms s.listed p walked))
    c.in_err-first_astray.was)

pub returns : goal.returns
returns c =
    let card = c.args.card.now in
    put_fitting
    (λ place g ms b s alike p. let (w, walked) = c.put_card-count.ensures g ms b s alike in
    (w, c.first_astray.ensures place (start (doc_of card g)) ms s.listed p walked))
    c.in_ok-first_astray.was c.fitting.ensures
