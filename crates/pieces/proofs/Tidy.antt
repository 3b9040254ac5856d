-- The words of what words mean (`held_of`, `state_of`, crate wire): by where in the grammar they stand. Assumes nothing.
use mathlib.Core.Path.{◌≡◌, refl, ap, ◌∙◌}
use mathlib.Core.List.{List, [], ◌∷◌}
use Prim.Native.Nat.{ℕ, zero, suc, ◌+◌, ◌-◌, ◌≤◌, ◌<◌}
use native.Mathlib.Omega.{arith}
use lib.ListN.{length, get_or}
use borrow.Author.Tests.{lt-ltb, le-ltb}
use Rattle.text.specs.Tree.{Bracket}
use Rattle.laws.proofs.Branches.{if_less}
use Rattle.wire.specs.declared.Inner.{Inner}
use Rattle.wire.specs.declared.Held.{Held}
use Rattle.wire.specs.Machine.{Spot, value, first, name, colon, after, going, number}
use Rattle.wire.specs.Held.{opened_of, bits_of, figure_at, figure_code, literal_at, literal_code, inner_at, inner_code, inner_from, inner_bits, inner_high, spot_at, state_at, state_of, placed, held_of}
use Rattle.wire.proofs.Fits.{opened_length}

module _ (at n : ℕ) (os : List Bracket) where
  -- the words of a state with no character open
  abbrev plainly : (spot : ℕ) → Held
  plainly spot = placed at n (length os) (bits_of os) spot 0 0 0

  literal_held : (k : ℕ) → k < 9 → held_of (going at n os (literal_at k)) ≡ plainly (5 + k)
  unfolding held_of literal_at literal_code
  literal_held zero h = refl
  literal_held (suc zero) h = refl
  literal_held (suc (suc zero)) h = refl
  literal_held (suc (suc (suc zero))) h = refl
  literal_held (suc (suc (suc (suc zero)))) h = refl
  literal_held (suc (suc (suc (suc (suc zero))))) h = refl
  literal_held (suc (suc (suc (suc (suc (suc zero)))))) h = refl
  literal_held (suc (suc (suc (suc (suc (suc (suc zero))))))) h = refl
  literal_held (suc (suc (suc (suc (suc (suc (suc (suc zero)))))))) h = refl
  literal_held (suc (suc (suc (suc (suc (suc (suc (suc (suc k))))))))) h = absurd (omega arith)

  figure_held : (k : ℕ) → k < 8 → held_of (going at n os (number (figure_at k))) ≡ plainly (14 + k)
  unfolding held_of figure_at figure_code
  figure_held zero h = refl
  figure_held (suc zero) h = refl
  figure_held (suc (suc zero)) h = refl
  figure_held (suc (suc (suc zero))) h = refl
  figure_held (suc (suc (suc (suc zero)))) h = refl
  figure_held (suc (suc (suc (suc (suc zero))))) h = refl
  figure_held (suc (suc (suc (suc (suc (suc zero)))))) h = refl
  figure_held (suc (suc (suc (suc (suc (suc (suc zero))))))) h = refl
  figure_held (suc (suc (suc (suc (suc (suc (suc (suc k)))))))) h = absurd (omega arith)

  between_held : (k : ℕ) → k < 5 → held_of (going at n os (get_or (value ∷ first ∷ name ∷ colon ∷ []) k after)) ≡ plainly k
  unfolding held_of
  between_held zero h = refl
  between_held (suc zero) h = refl
  between_held (suc (suc zero)) h = refl
  between_held (suc (suc (suc zero))) h = refl
  between_held (suc (suc (suc (suc zero)))) h = refl
  between_held (suc (suc (suc (suc (suc k))))) h = absurd (omega arith)

  pub spot_held : (spot from bits high : ℕ) → spot < 22 → held_of (going at n os (spot_at spot from bits high)) ≡ plainly spot
  unfolding spot_at
  spot_held spot from bits high h =
      if_less Right spot 5 (λ k. between_held spot k)
      (λ k. if_less Right spot 14 (λ m. let e : 5 + (spot - 5) ≡ spot = omega arith in literal_held (spot - 5) (omega arith) ∙ ap plainly e)
      (λ m. if_less Right spot 22 (λ o. let e : 14 + (spot - 14) ≡ spot = omega arith in figure_held (spot - 14) (omega arith) ∙ ap plainly e) (λ o. absurd (omega arith))))
    where
      Right : Spot → Type 0
      Right s = held_of (going at n os s) ≡ plainly spot

module _ (h : Held) where
  abbrev brackets : List Bracket
  brackets = opened_of h.depth h.opened

  -- inside a string, by where the numbers of its places begin
  abbrev inner : (start : ℕ) → Inner
  inner start = inner_at (h.spot - start) h.from h.bits h.high

  abbrev inside : (start : ℕ) → Held
  inside start =
      placed h.place h.values h.depth (bits_of brackets) (start + inner_code (inner start)) (inner_from (inner start)) (inner_bits (inner start))
      (inner_high (inner start))

  pub low_held : h.spot < 22 → placed h.place h.values h.depth (bits_of brackets) h.spot 0 0 0 ≡ held_of (state_of h)
  unfolding state_at
  low_held k =
      let e = spot_held h.place h.values brackets h.spot h.from h.bits h.high k in
      rw (lt-ltb h.spot 54 (omega arith), e, opened_length h.depth h.opened)

  pub text_held : 22 ≤ h.spot → h.spot < 38 → inside 22 ≡ held_of (state_of h)
  unfolding state_at spot_at held_of
  text_held l k =
      let code = h.spot in
      rw (
        lt-ltb code 54 (omega arith),
        le-ltb code 5 (omega arith),
        le-ltb code 14 (omega arith),
        le-ltb code 22 l,
        lt-ltb code 38 k,
        opened_length h.depth h.opened,
      )

  pub key_held : 38 ≤ h.spot → h.spot < 54 → inside 38 ≡ held_of (state_of h)
  unfolding state_at spot_at held_of
  key_held l k =
      let code = h.spot in
      rw (
        lt-ltb code 54 k,
        le-ltb code 5 (omega arith),
        le-ltb code 14 (omega arith),
        le-ltb code 22 (omega arith),
        le-ltb code 38 l,
        opened_length h.depth h.opened,
      )
