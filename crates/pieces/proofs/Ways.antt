-- One law for each way the code goes: by the digits or bytes that are left (`hex-..`, `tail-..`), by a digit or another byte (`turn_either`), and past
-- the numbers of a match (`past`, `..-last`). Assumes nothing.
use Rattle.std.specs.Prelude.{Some, Ok}
use mathlib.Core.Path.{◌≡◌, refl}
use mathlib.Core.Bool.{Bool, true, false, cond}
use Prim.Native.Nat.{ℕ, zero, suc, ◌-◌, ◌≤◌}
use native.Mathlib.Omega.{arith}
use lib.ListN.{get_or-eq_default}
use Rattle.wire.specs.declared.Inner.TheVariants.{Four, Tails}
use Rattle.wire.specs.declared.Figure.TheVariants.{Digits}
use Rattle.code_points.specs.Characters.{is_character}
use Rattle.wire.specs.Inners.{sound, checked, unit_move, hex_move, tail_move}
use Rattle.wire.specs.Held.{figure_at, inner_at}
use Rattle.pieces.specs.Turns.{turn_at, awaited_at, behind_at}

pub hex_last : (from left u : ℕ) → left ≡ 0 → unit_move from u ≡ hex_move from left u
unfolding hex_move
hex_last from left u e = rw e

pub hex_later : (from left u : ℕ) → (left ≡ 0 → ⊥) → Ok (Some (Four from (left - 1) u)) ≡ hex_move from left u
unfolding hex_move
hex_later from zero u h = absurd (h refl)
hex_later from (suc left) u h = let e : suc left - 1 ≡ left = omega arith in rw e

pub tail_last : (from left c : ℕ) → left ≡ 0 → checked from c ≡ tail_move from left c
unfolding tail_move
tail_last from left c e = rw e

pub tail_later : (from left c : ℕ) → (left ≡ 0 → ⊥) → Ok (Some (Tails from (left - 1) c)) ≡ tail_move from left c
unfolding tail_move
tail_later from zero c h = absurd (h refl)
tail_later from (suc left) c h = let e : suc left - 1 ≡ left = omega arith in rw e

-- a number that leads on or does what another byte does: its turn
pub turn_either : (x : Bool) (next other : ℕ) → turn_at (cond x next other) ≡ cond x (turn_at next) (turn_at other)
turn_either true next other = refl
turn_either false next other = refl

-- in the last arm of a match on 0, 1, .. : the number is past all of these
abbrev pub NoneBelow : (n k : ℕ) → Type 0
NoneBelow zero k = Prim.Unit {0}
NoneBelow (suc n) k = NoneBelow n k × (k ≡ n → ⊥)

pub past : (n k : ℕ) → NoneBelow n k → n ≤ k
past zero k h = omega arith
past (suc n) k h =
    let low = past n k h.0 in
    let other = h.1 in
    omega arith

-- a number past the numbered places is the last
pub figure_last : (k : ℕ) → 7 ≤ k → figure_at k ≡ Digits
unfolding figure_at
figure_last k h = rw get_or-eq_default

pub awaited_last : (k : ℕ) → 8 ≤ k → awaited_at k ≡ 117
unfolding awaited_at
awaited_last k h = rw get_or-eq_default

pub behind_last : (k : ℕ) → 8 ≤ k → behind_at k ≡ 11
unfolding behind_at
behind_last k h = rw get_or-eq_default

pub inner_last : (k from bits high : ℕ) → 15 ≤ k → inner_at k from bits high ≡ Tails from 1 bits
unfolding inner_at
inner_last k from bits high h = rw get_or-eq_default

-- a string may hold what is a character
pub sound_is : (c : ℕ) → sound c ≡ is_character c
unfolding sound is_character
sound_is c = refl
