-- `card::rules::is_true` meets its contract. Assumes nothing.
use mathlib.Core.Path.{◌≡◌, refl}
use Rattle.text.specs.Doc.{Doc, members_of}
use mathlib.Core.Bool.{false}
use mathlib.Core.Option.{Option}
use lib.Dec.{eqb}
use Rattle.contact.specs.Rules.{present, is_true}
use Rattle.card.proofs.Judging.Values.{value_kind, by_found, by_nothing, itself}
use Rattle.card.proofs.rules.is_true.Goals as goal

pub returns-in-Some : goal.returns-in-Some
returns-in-Some c =
    λ f s.
    let a = c.args in
    let text = a.on.now.text.now in
    by_found itself text a.on.now.table.now (present a.object.of a.name.now (members_of text f)) (c.present.ensures f s)
    (λ (x : Option Doc). eqb c.kind.result 3 ≡ is_true x) c.in-Some.is (λ d g v e. rw (e, ← value_kind text g v, ← c.kind.ensures))

pub returns-in-None : goal.returns-in-None
returns-in-None c =
    λ f s.
    let a = c.args in
    let text = a.on.now.text.now in
    by_nothing itself text a.on.now.table.now (present a.object.of a.name.now (members_of text f)) (c.present.ensures f s)
    (λ (x : Option Doc). false ≡ is_true x) c.in-None.is refl
