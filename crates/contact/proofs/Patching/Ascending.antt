-- The added members ascend by decoded name: `added_ascending`.
-- Assumes nothing.
use mathlib.Core.Bool.{true}
use mathlib.Core.List.{List, [], ◌∷◌}
use mathlib.Core.Option.{Option, none, some, some-ne-none}
use mathlib.Core.Path.{◌≡◌, refl, sym, ap, ◌∙◌}
use Rattle.laws.proofs.Bools.{by_test}
use Rattle.laws.specs.Order.{before}
use Rattle.laws.proofs.Orders.{before_trans}
use Rattle.text.specs.Doc.{Name, Doc, Members, empty, member, Property, property, seek}
use Rattle.contact.specs.Pointer.{last, down}
use Rattle.contact.specs.Patch.{remove, set, Entry, entry, insert, fresh, added}
use Rattle.contact.specs.Entries.{NoClash, BeforeAll, Ascending}
use Rattle.contact.proofs.Patching.Names.{same_yes, same_no, by_name, before_total}
use Rattle.contact.proofs.Patching.Applied.{said, mine_none, added_new}

before_further : (k n : Name) (ms : Members) → before k n ≡ true → BeforeAll n ms → BeforeAll k ms
before_further k n empty b h = tt
before_further k n (member m t d ms) b h = (before_trans k n m b h.0, before_further k n ms b h.1)

before_insert : (k n : Name) (v : Doc) (ms : Members) → before k n ≡ true → BeforeAll k ms → BeforeAll k (insert n v ms)
before_insert k n v empty b h = (b, tt)
before_insert k n v (member m t d ms) b h =
    by_test (before n m) (λ q. simp q (b, h)) (λ q. simp q (h.0, before_insert k n v ms b h.1))

ascending_insert : (n : Name) (v : Doc) (ms : Members) → seek n ms ≡ none → Ascending ms → Ascending (insert n v ms)
ascending_insert n v empty e h = (tt, tt)
ascending_insert n v (member m t d ms) e h =
    by_name m n
    (λ q. absurd (some-ne-none (property t d) (simp (same_yes q) at e)))
    (λ ne. by_test (before n m)
    (λ b. simp b ((refl, before_further n m ms b h.0), h))
    (λ b. simp b (
      before_insert m n v ms (before_total n m (λ q. ne (sym q)) b) h.0,
      ascending_insert n v ms (simp (same_no ne) at e) h.1,
    )))

pub added_ascending : (ms : Members) (es : List Entry) → NoClash es → Ascending (added ms es)
added_ascending ms [] k = tt
added_ascending ms (entry (last n) remove ∷ es) k = added_ascending ms es k.1
added_ascending ms (entry (last n) (set v) ∷ es) k = go (seek n ms) refl (added_ascending ms es k.1)
  where
    go : (o : Option Property) → seek n ms ≡ o → Ascending (added ms es) → Ascending (fresh o n v (added ms es))
    go none e ih = ascending_insert n v (added ms es) (added_new n ms es k.1 e ∙ ap (said n) (mine_none n es k.0)) ih
    go (some s) e ih = ih
added_ascending ms (entry (down n p) c ∷ es) k = added_ascending ms es k.1
