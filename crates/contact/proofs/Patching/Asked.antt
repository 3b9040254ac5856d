-- A PatchObject without a loose `~` in its keys asks for the entries that `entries_of` finds (`asked_of`), and for no others (`one_asking`).
-- Assumes nothing.
use mathlib.Core.Path.{◌≡◌, refl, sym, ◌∙◌}
use mathlib.Core.List.{List, ◌∷◌}
use lib.Dec.{eqb}
use native.Mathlib.Omega.{arith}
use borrow.Author.Tests.{eqb-true, eqb-false}
use Rattle.laws.proofs.Bools.{by_test}
use Rattle.text.specs.Doc.{Name, Doc, scalar, array, object, Members, empty, member}
use Rattle.contact.specs.Pointer.{Pointer, pointer_of}
use Rattle.contact.specs.PointerText.{PointerText}
use Rattle.contact.specs.Patch.{Change, change_of, Entry, entry, entries_of}
use Rattle.contact.specs.Entries.{Asks, removes, sets, Asked, no_key, key_alone}
use Rattle.contact.specs.Conditions.{LooseTilde, HasKey, first, later}
use Rattle.contact.proofs.Patching.Pointers.{key_iff}

asks_of : (d : Doc) → Asks d (change_of d)
asks_of (scalar kind token) = by_test (eqb kind 1) (λ b. rw (eqb-true kind 1 b) removes) (λ b. simp b (sets (eqb-false kind 1 b)))
asks_of (array ms) = sets {v = array ms} (λ e. omega arith)
asks_of (object ms) = sets {v = object ms} (λ e. omega arith)

pub asked_of : (ms : Members) → ((key : Name) → HasKey key ms → ¬ LooseTilde key) → Asked ms (entries_of ms)
asked_of empty h = no_key
asked_of (member key label d ms) h =
    key_alone ((key_iff key (pointer_of key)).1 (h key first, refl)) (asks_of d) (asked_of ms (λ k x. h k (later x)))

one_pointer : {key : Name} {p q : Pointer} → PointerText key p → PointerText key q → p ≡ q
one_pointer {key} {p} {q} x y = ((key_iff key p).0 x).1 ∙ sym ((key_iff key q).0 y).1

one_change : {d : Doc} {c b : Change} → Asks d c → Asks d b → c ≡ b
one_change removes removes = refl
one_change removes (sets h) = absurd (h refl)
one_change (sets h) removes = absurd (h refl)
one_change (sets h) (sets k) = refl

pub one_asking : {ms : Members} {es fs : List Entry} → Asked ms es → Asked ms fs → es ≡ fs
one_asking no_key no_key = refl
one_asking (key_alone p a x) (key_alone q b y) = λ i. entry (one_pointer p q i) (one_change a b i) ∷ one_asking x y i
