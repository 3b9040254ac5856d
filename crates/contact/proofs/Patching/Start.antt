-- Where localizing starts: the PatchObject is what the card has under `localizations` for the language (`patch_iff`), and `start` is the card
-- without its localizations (`start_left`, `start_only`).
-- Assumes nothing.
use mathlib.Core.Path.{◌≡◌, refl, sym, ap, ◌∙◌, subst}
use mathlib.Core.List.{List}
use mathlib.Core.Logic.{◌↔◌}
use mathlib.Core.Option.{Option, none, some, none-ne-some}
use Prim.Native.Nat.{ℕ}
use Rattle.laws.proofs.Orders.{same_refl}
use Rattle.text.specs.Text.{bytes}
use Rattle.text.specs.Doc.{Name, Doc, scalar, array, object, Members, empty, member, Property, property, seek}
use Rattle.contact.specs.Pointer.{last, within, find}
use Rattle.contact.specs.Patch.{without}
use Rattle.contact.specs.Localize.{start, patch_at}
use Rattle.contact.specs.BetweenMembers.{HasMember}
use Rattle.contact.specs.Conditions.{PatchOf, PatchUnder, patch_under, LeftOut, no_more, goes, stays, LeftOutOf, left_out}
use Rattle.contact.proofs.Members.{has_seek, seek_has}
use Rattle.contact.proofs.Patching.Names.{same_yes, same_no, by_name}

abbrev localizations : Name
localizations = bytes "localizations"

-- ---- the PatchObject

-- in the localizations
in_localizations : (lang : Name) (ms : Members) (d : Doc) (label : List ℕ) → find (last lang) d ≡ some (property label (object ms))
    → (ls : Members) × (d ≡ object ls) × HasMember ls lang (object ms)
in_localizations lang ms (scalar kind token) label e = absurd (none-ne-some _ e)
in_localizations lang ms (array xs) label e = absurd (none-ne-some _ e)
in_localizations lang ms (object ls) label e = (ls, refl, (label, seek_has lang ls (property label (object ms)) e))

patch_there : (card : Doc) (lang : Name) (ms : Members) (label : List ℕ) → find (patch_at lang) card ≡ some (property label (object ms)) → PatchUnder lang ms card
patch_there (scalar kind token) lang ms label e = absurd (none-ne-some _ e)
patch_there (array xs) lang ms label e = absurd (none-ne-some _ e)
patch_there (object os) lang ms label e = go (seek localizations os) refl e
  where
    go : (o : Option Property) → seek localizations os ≡ o → within (find (last lang)) o ≡ some (property label (object ms)) → PatchUnder lang ms (object os)
    go none k q = absurd (none-ne-some _ q)
    go (some s) k q =
        let (ls, x, h) = in_localizations lang ms s.content label q in
        patch_under (subst (λ (d : Doc). HasMember os localizations d) x (s.label, seek_has localizations os s k)) h

patch_stands : (card : Doc) (lang : Name) (ms : Members) → PatchUnder lang ms card → PatchOf card lang ms
patch_stands card lang ms (patch_under (outer, h) (label, k)) = record { label = label; stands = ap (within (find (last lang))) (has_seek h) ∙ has_seek k }

pub patch_iff : (card : Doc) (lang : Name) (ms : Members) → PatchOf card lang ms ↔ PatchUnder lang ms card
patch_iff card lang ms = (λ p. patch_there card lang ms p.label p.stands, patch_stands card lang ms)

-- ---- the card without its localizations

start_members : (n : Name) (ms : Members) → LeftOut n ms (without n ms)
start_members n empty = no_more
start_members n (member m label d ms) =
    by_name m n
    (λ e. simp (same_yes e) (subst (λ (k : Name). LeftOut n (member k label d ms) (without n ms)) (sym e) (goes (start_members n ms))))
    (λ ne. simp (same_no ne) (stays ne (start_members n ms)))

-- a card with a PatchObject is an object
pub start_left : (card : Doc) (lang : Name) (ms : Members) → PatchOf card lang ms → LeftOutOf localizations card (start card)
start_left (scalar k t) lang ms p = absurd (none-ne-some _ p.stands)
start_left (array xs) lang ms p = absurd (none-ne-some _ p.stands)
start_left (object os) lang ms p = left_out (start_members localizations os)

one_left : {n : Name} {ms rest : Members} → LeftOut n ms rest → rest ≡ without n ms
one_left no_more = refl
one_left {n} (goes x) = simp (same_refl n) (one_left x)
one_left (stays {m = m} {label = label} {d = d} ne x) = simp (same_no ne) (ap (member m label d) (one_left x))

pub start_only : {card d : Doc} → LeftOutOf localizations card d → d ≡ start card
start_only (left_out x) = ap object (one_left x)
