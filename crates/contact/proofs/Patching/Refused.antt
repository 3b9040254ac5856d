-- What localizing a card answers: the broken condition of smallest number (`refused_iff`); a card is written exactly when none is broken
-- (`accepted_iff`). With a PatchObject of the language it is what the entries make of the card without its localizations (`has_patch`), and the
-- conditions are those of the two (`on_start`).
-- Assumes nothing.
use mathlib.Core.Path.{◌≡◌, refl, sym, ap, ◌∙◌, subst}
use mathlib.Core.Logic.{◌↔◌, ◌⊎◌, inl, inr}
use mathlib.Core.List.{List}
use mathlib.Core.Option.{Option, none, some, some-injective, none-ne-some}
use Prim.Native.Nat.{ℕ, ◌≤◌, ◌<◌}
use native.Mathlib.Omega.{arith}
use Rattle.text.specs.Limits.{Limits}
use Rattle.text.specs.Tree.{Forest}
use Rattle.text.specs.Doc.{Name, Doc, scalar, array, object, Members, Property, property}
use Rattle.contact.specs.Pointer.{find}
use Rattle.contact.specs.Patch.{entries_of}
use Rattle.contact.specs.Localize.{refused_local, Outcome, done, denied, start, patch_at, by_entries, in_patch, with_patch, localized_doc}
use Rattle.contact.specs.Conditions.{PatchOf, SecondNumber, BrokenPatch, BrokenCondition, no_language, of_patch, Smallest}
use Rattle.contact.specs.Conditions as S
use Rattle.contact.specs.declared.LocalRefusal.{LocalRefusal}
use Rattle.contact.specs.declared.LocalRefusal.TheVariants.{NoLanguage}
use Rattle.contact.proofs.Patching.Start.{start_left, start_only}
use Rattle.contact.proofs.Patching.Entering.{Accepted, patch_number, patch_second, entries_refused, entries_accepted}

-- a language has one PatchObject
pub one_patch : (card : Doc) (lang : Name) (ms ns : Members) → PatchOf card lang ms → PatchOf card lang ns → ms ≡ ns
one_patch card lang ms ns p q =
    let e : object ms ≡ object ns =
    ap (λ (s : Property). s.content) (some-injective (property p.label (object ms)) (property q.label (object ns)) (sym p.stands ∙ q.stands)) in
    cc

module _ (L : Limits) (words room : ℕ) (place : Name → ℕ) (card : Doc) (lang : Name) where
  abbrev B : ℕ → LocalRefusal → Type 0
  B n r = BrokenCondition L words room place card lang n r

  -- what the entries make of the starting card
  abbrev outcome_of : Members → Outcome
  outcome_of ms = by_entries L words room place (start card) ms (entries_of ms)

  -- ---- with a PatchObject, or without one

  -- it has one, or none and is refused for it
  abbrev Either : Outcome → Type 0
  Either o = ((ms : Members) × PatchOf card lang ms × (o ≡ outcome_of ms)) ⊎ (((ms : Members) → ¬ PatchOf card lang ms) × (o ≡ denied NoLanguage))

  -- what is found is no object, so it is no PatchObject
  no_object_case : (d : Doc) (ms : Members) (label : List ℕ) → find (patch_at lang) card ≡ some (property label d) → PatchOf card lang ms
      → (d ≡ object ms → ⊥) → ⊥
  no_object_case d ms label e p h =
      h (ap (λ (s : Property). s.content) (some-injective (property label d) (property p.label (object ms)) (sym e ∙ p.stands)))

  in_patch_lem : (label : List ℕ) (d : Doc) → find (patch_at lang) card ≡ some (property label d) → Either (in_patch L words room place (start card) d)
  unfolding in_patch
  in_patch_lem label (scalar k t) e = inr (λ ms p. no_object_case (scalar k t) ms label e p (λ q. let z : ◌≡◌ {A = ℕ} 0 1 = cc in omega arith), refl)
  in_patch_lem label (array xs) e = inr (λ ms p. no_object_case (array xs) ms label e p (λ q. let z : ◌≡◌ {A = ℕ} 0 1 = cc in omega arith), refl)
  in_patch_lem label (object ms) e = inl (ms, record { label = label; stands = e }, refl)

  with_patch_lem : (o : Option Property) → find (patch_at lang) card ≡ o → Either (with_patch L words room place (start card) o)
  unfolding with_patch
  with_patch_lem none e = inr (λ ms p. none-ne-some (property p.label (object ms)) (sym e ∙ p.stands), refl)
  with_patch_lem (some s) e = in_patch_lem s.label s.content e

  has_patch : Either (localized_doc L words room place card lang)
  unfolding localized_doc
  has_patch = with_patch_lem (find (patch_at lang) card) refl

  -- ---- the conditions of the two are those of the card

  module _ (ms : Members) (patch : PatchOf card lang ms) where
    abbrev P : ℕ → LocalRefusal → Type 0
    P n r = BrokenPatch L words room place (start card) ms n r

    pub of_start : {n : ℕ} {r : LocalRefusal} → P n r → B n r
    of_start b = of_patch patch (start_left card lang ms patch) b

    pub on_start : {n : ℕ} {r : LocalRefusal} → B n r → P n r
    on_start (no_language h) = absurd (h ms patch)
    on_start {n} {r} (of_patch {ms = ns} {d = d} p l b) =
        subst (λ (x : Members). BrokenPatch L words room place (start card) x n r) (sym (one_patch card lang ms ns patch p))
        (subst (λ (y : Doc). BrokenPatch L words room place y ns n r) (start_only l) b)

    pub smallest_of : {n : ℕ} {r : LocalRefusal} → Smallest P n r → Smallest B n r
    smallest_of s = record { broken = of_start s.broken; least = λ m q b. s.least m q (on_start b) }

    pub smallest_on : {n : ℕ} {r : LocalRefusal} → Smallest B n r → Smallest P n r
    smallest_on s = record { broken = on_start s.broken; least = λ m q b. s.least m q (of_start b) }

  -- no PatchObject: 21, and nothing else
  module _ (free : (ms : Members) → ¬ PatchOf card lang ms) where
    missing : Smallest B 21 NoLanguage
    missing = record { broken = no_language free; least = go }
      where
        go : (m : ℕ) (q : LocalRefusal) → B m q → 21 ≤ m
        go m q (no_language h) = omega arith
        go m q (of_patch {ms = ms} p l b) = absurd (free ms p)

    only_missing : {n : ℕ} {r : LocalRefusal} → B n r → r ≡ NoLanguage
    only_missing (no_language h) = refl
    only_missing (of_patch {ms = ms} p l b) = absurd (free ms p)

  -- the PatchObject of a condition that is not 21
  pub patch_of : {n : ℕ} {r : LocalRefusal} → B n r → 21 < n → (ms : Members) × PatchOf card lang ms
  patch_of (no_language h) l = absurd (omega arith)
  patch_of (of_patch {ms = ms} p l b) k = (ms, p)

  -- the sheet's number of a broken condition
  pub broken_number : {n : ℕ} {r : LocalRefusal} → B n r → (refused_local r).number ≡ n
  unfolding refused_local
  broken_number (no_language h) = refl
  broken_number (of_patch {ms = ms} {d = d} p l b) = patch_number L words room place d ms b

  -- and its second number
  pub broken_second : {n : ℕ} {r : LocalRefusal} → B n r → SecondNumber r (refused_local r).second
  unfolding refused_local
  broken_second (no_language h) = S.no_language_case
  broken_second (of_patch {ms = ms} {d = d} p l b) = patch_second L words room place d ms b

  -- ---- the theorems

  -- there is a PatchObject, and the text is what its entries make of the starting card
  pub record AcceptedCard (t : List ℕ) (f : Forest) : Type 0 where
    pub members : Members
    pub patch : PatchOf card lang members
    pub accepted : Accepted L words room place (start card) members t f

  -- a refusal is given exactly if its condition is broken, and none of a smaller number
  pub refused_iff : (r : LocalRefusal) → (localized_doc L words room place card lang ≡ denied r) ↔ Smallest B (refused_local r).number r
  unfolding refused_local
  refused_iff r = go (localized_doc L words room place card lang) has_patch
    where
      go : (o : Outcome) → Either o → (o ≡ denied r) ↔ Smallest B (refused_local r).number r
      go o (inl (ms, patch, e)) = (
        λ q. smallest_of ms patch ((entries_refused L words room place (start card) ms r).0 (sym e ∙ q)),
        λ s. e ∙ (entries_refused L words room place (start card) ms r).1 (smallest_on ms patch s),
      )
      go o (inr (free, e)) = (
        λ q. let h : NoLanguage ≡ r = cc in subst (λ (x : LocalRefusal). Smallest B (refused_local x).number x) h (missing free),
        λ s. e ∙ ap (λ (x : LocalRefusal). denied x) (sym (only_missing free s.broken)),
      )

  -- a card is written exactly if no condition is broken
  pub accepted_iff : (t : List ℕ) (f : Forest) → (localized_doc L words room place card lang ≡ done t f) ↔ AcceptedCard t f
  accepted_iff t f = go (localized_doc L words room place card lang) has_patch
    where
      go : (o : Outcome) → Either o → (o ≡ done t f) ↔ AcceptedCard t f
      go o (inl (ms, patch, e)) = (
        λ q. record { members = ms; patch = patch; accepted = (entries_accepted L words room place (start card) ms t f).0 (sym e ∙ q) },
        λ a. let h : a.members ≡ ms = one_patch card lang a.members ms a.patch patch in
            e ∙ (entries_accepted L words room place (start card) ms t f).1 (subst (λ (x : Members). Accepted L words room place (start card) x t f) h a.accepted),
      )
      go o (inr (free, e)) = (
        λ q. let z : ◌≡◌ {A = ℕ} 0 1 = cc in absurd (omega arith),
        λ a. absurd (free a.members a.patch),
      )

  pub accepted_unbroken : {t : List ℕ} {f : Forest} → AcceptedCard t f → (n : ℕ) (r : LocalRefusal) → ¬ B n r
  accepted_unbroken a n r b = a.accepted.unbroken n r (on_start a.members a.patch b)
