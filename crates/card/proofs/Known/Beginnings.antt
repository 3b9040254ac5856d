-- A name whose first written byte is no backslash begins with it, so that it is none of the words that begin otherwise: `name_apart`.
-- Assumes nothing.
use Prim.Native.Nat.{ℕ, ◌+◌, ◌-◌, ◌≤◌, ◌<◌}
use mathlib.Core.Path.{◌≡◌, refl, ap, ◌∙◌}
use mathlib.Core.Bool.{false}
use mathlib.Core.List.{List, [], ◌∷◌}
use native.Mathlib.Decide.{dec_le, ℕ_discrete}
use native.Mathlib.Omega.{arith}
use lib.ListN.{length}
use Rattle.laws.specs.Lists.{part_of}
use Rattle.laws.specs.Order.{order_of, same}
use Rattle.laws.proofs.Branches.{if_most}
use Rattle.laws.proofs.Orders.{differ}
use Rattle.laws.proofs.Parts.{part_more, part_out}
use Rattle.text.specs.Text.{byte_at}
use Rattle.text.specs.Strings.{decode_from, decode, name_of}
use Rattle.json_reader.proofs.Alike.{decode_over, decode_byte}

module _ (x : ℕ) (xs : List ℕ) where
  -- what decodes to something else
  abbrev Other : List ℕ → Type 0
  Other p = same (decode p) (x ∷ xs) ≡ false

  none_other : Other []
  unfolding order_of
  none_other = ap (λ (d : List ℕ). same d (x ∷ xs)) (decode_over [] 0 refl)

  first_other : (p : List ℕ) → (byte_at p 0 ≡ 92 → ⊥) → (byte_at p 0 ≡ x → ⊥) → Other p
  unfolding order_of
  first_other p s ne = elim (ℕ_discrete (byte_at p 0) 256) [
    | yes e ↦ ap (λ (d : List ℕ). same d (x ∷ xs)) (decode_over p 0 e)
    | no e ↦ ap (λ (d : List ℕ). same d (x ∷ xs)) (decode_byte p 0 s e) ∙ differ (byte_at p 0) x (decode_from p 1) xs ne
  ]

  module _ (t : List ℕ) (s e : ℕ) where
    -- no bytes, where the end isn't behind the start or is past the text's
    empty_other : e ≤ s → Other (part_of t s e)
    unfolding part_of
    empty_other h =
        let z : e - s ≡ 0 = omega arith in
        if_most Other e (length t) (λ k. if_most Other s e (λ l. rw z none_other) (λ l. none_other)) (λ k. none_other)

    outside_other : length t < e → Other (part_of t s e)
    outside_other h = rw (part_out t s e h) none_other

    pub name_apart : (byte_at t s ≡ 92 → ⊥) → (byte_at t s ≡ x → ⊥) → same (name_of t s e) (x ∷ xs) ≡ false
    name_apart b ne = elim (dec_le e s) [
      | yes h ↦ empty_other h
      | no h ↦ elim (dec_le e (length t)) [
        | yes k ↦ rw (part_more t s e (omega arith) k) (first_other (byte_at t s ∷ part_of t (s + 1) e) b ne)
        | no k ↦ outside_other (omega arith)
      ]
    ]
