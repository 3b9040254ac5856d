-- 22 in words: `bad_tilde` finds a `~` that neither `0` nor `1` follows, exactly if there is one.
-- Assumes nothing.
use mathlib.Core.Path.{◌≡◌, refl, sym, ap, ◌∙◌}
use mathlib.Core.Bool.{true, false, not, ◌&&◌, true≢false}
use mathlib.Core.Logic.{◌↔◌}
use mathlib.Core.List.{List, [], ◌∷◌, ◌++◌}
use Prim.Native.Nat.{ℕ}
use lib.Dec.{eqb}
use borrow.Author.Tests.{eqb-true}
use Rattle.laws.proofs.Bools.{by_test, or_right}
use Rattle.text.specs.Doc.{Name}
use Rattle.contact.specs.Pointer.{zero_or_one, bad_tilde}
use Rattle.contact.specs.Conditions.{LooseTilde}

-- what follows a loose `~`
loose_not : (bs rest : List ℕ) → zero_or_one bs ≡ false → ((bs ≡ 48 ∷ rest) → ⊥) × ((bs ≡ 49 ∷ rest) → ⊥)
loose_not bs rest h = (λ e. true≢false (sym (ap zero_or_one e) ∙ h), λ e. true≢false (sym (ap zero_or_one e) ∙ h))

not_loose : (bs : List ℕ) → ((rest : List ℕ) → ((bs ≡ 48 ∷ rest) → ⊥) × ((bs ≡ 49 ∷ rest) → ⊥)) → zero_or_one bs ≡ false
not_loose [] h = refl
not_loose (b ∷ bs) h =
    by_test (eqb b 48)
    (λ x. absurd ((h bs).0 (ap (λ (c : ℕ). c ∷ bs) (eqb-true b 48 x))))
    (λ x. by_test (eqb b 49)
    (λ y. absurd ((h bs).1 (ap (λ (c : ℕ). c ∷ bs) (eqb-true b 49 y))))
    (λ y. rw (x, y)))

-- one byte further
further : (b : ℕ) (bs : List ℕ) → LooseTilde bs → LooseTilde (b ∷ bs)
further b bs h = record { front = b ∷ h.front; behind = h.behind; stands = ap (λ (k : List ℕ). b ∷ k) h.stands; loose = h.loose }

here : (b : ℕ) (bs : List ℕ) → b ≡ 126 → zero_or_one bs ≡ false → LooseTilde (b ∷ bs)
here b bs e h = record { front = []; behind = bs; stands = ap (λ (c : ℕ). c ∷ bs) e; loose = λ rest. loose_not bs rest h }

found : (key : Name) → bad_tilde key ≡ true → LooseTilde key
found [] h = absurd (true≢false (sym h))
found (b ∷ bs) h =
    by_test (bad_tilde bs)
    (λ x. further b bs (found bs x))
    (λ x. by_test (eqb b 126)
    (λ y. by_test (zero_or_one bs)
    (λ z. absurd (true≢false (sym (simp (x, y, z) at h))))
    (λ z. here b bs (eqb-true b 126 y) z))
    (λ y. absurd (true≢false (sym (simp (x, y) at h)))))

there : (front behind : List ℕ) → zero_or_one behind ≡ false → bad_tilde (front ++ (126 ∷ behind)) ≡ true
there [] behind h = rw h
there (b ∷ front) behind h = or_right (eqb b 126 && not (zero_or_one (front ++ (126 ∷ behind)))) (bad_tilde (front ++ (126 ∷ behind))) (there front behind h)

pub tilde_iff : (key : Name) → (bad_tilde key ≡ true) ↔ LooseTilde key
tilde_iff key = (found key, λ h. ap bad_tilde h.stands ∙ there h.front h.behind (not_loose h.behind h.loose))
