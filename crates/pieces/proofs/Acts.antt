-- Between tokens (specs/Turns.antt; crate wire, specs/Machine.antt), where the open brackets are bits:
--     closes-none, closes-array, closes-object     after a value
--     firsts-none, firsts-array, firsts-object     right after a bracket, by the number of what must come
--     act-spot                                     elsewhere that number is the spot's
-- Assumes nothing.
use Rattle.std.specs.Prelude.{Ok}
use mathlib.Core.Path.{◌≡◌, refl}
use mathlib.Core.Bool.{cond}
use mathlib.Core.List.{List}
use Prim.Native.Nat.{ℕ, zero, suc, ◌+◌, ◌-◌, ◌/◌, ◌%◌, ◌<◌}
use native.Mathlib.Omega.{arith}
use lib.Dec.{eqb}
use borrow.Author.Tests.{ne_eqb}
use Rattle.laws.proofs.Branches.{if_equal}
use Rattle.text.specs.Limits.{base}
use Rattle.text.specs.Tree.{Bracket}
use Rattle.text.specs.declared.Refusal.TheVariants.{Grammar}
use Rattle.wire.specs.Machine.{value, name, after, going, over, refuse, items, firsts, closes}
use Rattle.wire.specs.Held.{opened_of, spot_at}
use Rattle.pieces.specs.Turns.{act_at, act_of}
use Rattle.pieces.proofs.Opened.{opened_pop}

pub act_spot : (spot at n : ℕ) (os : List Bracket) (b : ℕ) → spot < 5 → (spot ≡ 1 → ⊥) → act_at spot at n os b ≡ act_of (spot_at spot 0 0 0) at n os b
unfolding act_of spot_at
act_spot zero at n os b h k = refl
act_spot (suc zero) at n os b h k = absurd (k refl)
act_spot (suc (suc zero)) at n os b h k = refl
act_spot (suc (suc (suc zero))) at n os b h k = refl
act_spot (suc (suc (suc (suc zero)))) at n os b h k = refl
act_spot (suc (suc (suc (suc (suc spot))))) at n os b h k = absurd (omega arith)

module _ (at n depth bits b : ℕ) where
  pub closes_none : depth ≡ 0 → closes at n (opened_of depth bits) b ≡ cond (eqb b 256) (over (Ok n)) (refuse (Grammar at))
  unfolding closes opened_of
  closes_none d = rw d

  pub firsts_none : depth ≡ 0 → refuse (Grammar at) ≡ firsts base at n (opened_of depth bits) b
  unfolding firsts opened_of
  firsts_none d = rw d

  module _ (d : depth ≡ 0 → ⊥) where
    pub closes_array : bits % 2 ≡ 0
        → closes at n (opened_of depth bits) b
        ≡ cond (eqb b 93) (going (at + 1) n (opened_of (depth - 1) (bits / 2)) after)
        (cond (eqb b 44) (going (at + 1) n (opened_of depth bits) value) (refuse (Grammar at)))
    unfolding closes
    closes_array a = rw (opened_pop depth bits d, a)

    pub closes_object : bits % 2 ≡ 1
        → closes at n (opened_of depth bits) b
        ≡ cond (eqb b 125) (going (at + 1) n (opened_of (depth - 1) (bits / 2)) after)
        (cond (eqb b 44) (going (at + 1) n (opened_of depth bits) name) (refuse (Grammar at)))
    unfolding closes
    closes_object a = rw (opened_pop depth bits d, a)

    pub firsts_array : bits % 2 ≡ 0 → act_at (cond (eqb b 93) 4 0) at n (opened_of depth bits) b ≡ firsts base at n (opened_of depth bits) b
    unfolding firsts items closes act_at
    firsts_array a =
        if_equal (λ k. act_at k at n (opened_of depth bits) b ≡ firsts base at n (opened_of depth bits) b) b 93
        (λ e. rw (opened_pop depth bits d, a, e)) (λ e. rw (opened_pop depth bits d, a, ne_eqb b 93 e))

    pub firsts_object : bits % 2 ≡ 1 → act_at (cond (eqb b 125) 4 2) at n (opened_of depth bits) b ≡ firsts base at n (opened_of depth bits) b
    unfolding firsts items closes act_at
    firsts_object a =
        if_equal (λ k. act_at k at n (opened_of depth bits) b ≡ firsts base at n (opened_of depth bits) b) b 125
        (λ e. rw (opened_pop depth bits d, a, e)) (λ e. rw (opened_pop depth bits d, a, ne_eqb b 125 e))
