-- What `seek` finds in an object is the member that it has (specs/BetweenMembers.antt):
--     seek-has, has-seek        the property of a name
--     seek-lacks, lacks-seek    none of that name
-- Assumes nothing.
use mathlib.Core.Path.{◌≡◌, refl, subst, sym, ◌∙◌}
use mathlib.Core.Option.{Option, none, some, some-injective, none-ne-some}
use Rattle.laws.proofs.Orders.{same_refl}
use Rattle.text.specs.Doc.{Name, Doc, Members, empty, member, Property, property, seek}
use Rattle.text.proofs.Names.{same_yes, same_no, by_name}
use Rattle.contact.specs.BetweenMembers.{HasProperty, here, later, HasMember}

pub has_seek : {n : Name} {ms : Members} {s : Property} → HasProperty ms n s → seek n ms ≡ some s
has_seek (here {n = n}) = simp (same_refl n)
has_seek (later ne h) = simp (same_no ne) (has_seek h)

pub seek_has : (n : Name) (ms : Members) (s : Property) → seek n ms ≡ some s → HasProperty ms n s
seek_has n empty s e = absurd (none-ne-some s e)
seek_has n (member m label d ms) s e =
    by_name m n
    (λ q. let p : property label d ≡ s = some-injective (property label d) s (simp (same_yes q) at e) in
    let h : HasProperty (member m label d ms) n (property label d) = subst (λ (k : Name). HasProperty (member m label d ms) k (property label d)) q here in
    subst (HasProperty (member m label d ms) n) p h)
    (λ ne. later ne (seek_has n ms s (simp (same_no ne) at e)))

pub seek_lacks : (n : Name) (ms : Members) → seek n ms ≡ none → (d : Doc) → ¬ HasMember ms n d
seek_lacks n ms e d (label, h) = none-ne-some (property label d) (sym e ∙ has_seek h)

pub lacks_seek : (n : Name) (ms : Members) → ((d : Doc) → ¬ HasMember ms n d) → seek n ms ≡ none
lacks_seek n ms f = go (seek n ms) (λ s e. f s.content (s.label, seek_has n ms s e))
  where
    go : (o : Option Property) → ((s : Property) → o ≡ some s → ⊥) → o ≡ none
    go none g = refl
    go (some s) g = absurd (g s refl)
