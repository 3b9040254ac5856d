-- `pointers::parts::decoded_order` meets its contract: the library's comparison of what two iterators yield. Assumes nothing.
use mathlib.Core.Path.{◌≡◌, refl, ◌∙◌}
use Rattle.std.specs.Ordering.{nat_cmp}
use Rattle.std.proofs.lemmas.Iterator.Consumers.{YieldsList-from_first}
use Rattle.std.proofs.lemmas.Iterator.Search.{cmp_from_yields_List}
use Rattle.json_reader.proofs.Ordered.{ordered}
use Rattle.pointers.specs.Parts.{name_left}
use Rattle.pointers.proofs.parts.decoded_order.Goals as goal

pub returns : goal.returns
returns g c =
    cmp_from_yields_List (λ x y. y ≡ x) _ nat_cmp _ c.cmp.ensures.ran
    (YieldsList-from_first (λ x. x) (λ s. name_left g.A.Kind.part s.key.now s.at) _ refl)
    (λ it e. rw e (YieldsList-from_first (λ x. x) (λ s. name_left g.B.Kind.part s.key.now s.at) _ refl)) (λ x y. refl)
    ∙ ordered _ _
