-- `card::inside::is_string_at` meets its contract: each arm by what was found. Assumes nothing.
use mathlib.Core.Path.{◌≡◌, refl}
use mathlib.Core.Bool.{false}
use mathlib.Core.Option.{Option}
use Rattle.text.specs.Doc.{Doc}
use Rattle.contact.specs.Rules.{is_this_string}
use Rattle.card.proofs.Judging.Values.{itself, by_found, by_nothing}
use Rattle.card.proofs.inside.is_string_at.Goals as goal

pub returns-in-Some : goal.returns-in-Some
returns-in-Some c =
    λ o s.
    let a = c.args in
    by_found itself a.on.now.text.now a.on.now.table.now o s (λ (x : Option Doc). c.is_string.result ≡ is_this_string a.content.now x) c.in-Some.is
    (λ d g v e. rw e (c.is_string.ensures g v))

pub returns-in-None : goal.returns-in-None
returns-in-None c =
    λ o s.
    let a = c.args in
    by_nothing itself a.on.now.text.now a.on.now.table.now o s (λ (x : Option Doc). false ≡ is_this_string a.content.now x) c.in-None.is refl
