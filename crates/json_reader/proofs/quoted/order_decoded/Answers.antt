-- `json_reader::quoted::order_decoded` meets its contract: the library's order of two iterators is that of what they have left (`ordered`). Assumes nothing.
use mathlib.Core.Path.{◌≡◌, refl, ◌∙◌}
use Rattle.std.specs.Ordering.{nat_cmp}
use Rattle.std.proofs.lemmas.Iterator.Consumers.{YieldsList-from_first}
use Rattle.std.proofs.lemmas.Iterator.Search.{cmp_from_yields_List}
use Rattle.text.specs.Utf8.{conts}
use Rattle.repeats.specs.Quoted.{quoted_from}
use Rattle.json_reader.specs.Quoted.{rest_to}
use Rattle.json_reader.proofs.Ordered.{ordered}
use Rattle.json_reader.proofs.quoted.order_decoded.Goals as goal

pub returns : goal.returns
unfolding conts
returns c =
    let t = c.args.text.now in
    cmp_from_yields_List (λ x y. y ≡ x) _ nat_cmp _ c.cmp.ensures.ran
    (YieldsList-from_first (λ x. x) (λ s. rest_to s.text.now s.at) (quoted_from t c.args.a) (rw c.cursor_at.ensures refl))
    (λ it e. rw e (YieldsList-from_first (λ x. x) (λ s. rest_to s.text.now s.at) (quoted_from t c.args.b) (rw c.cursor_at-2.ensures refl))) (λ x y. refl)
    ∙ ordered _ _
