-- What a byte does to a state, by the class of its spot:
--     at-going, at-over                a state by its words
--     space-stays, act-is              between tokens
--     literal-told, literal-moved      in a literal
--     number_is                        in a number
--     string-spot, string-is           in a string; `still_is` has the words of its next place
-- Assumes nothing.
use Rattle.std.specs.Prelude.{Option, Result}
use Rattle.text.specs.declared.Fault.{Fault}
use mathlib.Core.Path.{◌≡◌, refl, sym, ap, ◌∙◌}
use mathlib.Core.Bool.{Bool, true, false, cond}
use mathlib.Core.List.{List, [], ◌∷◌}
use Prim.Native.Nat.{ℕ, zero, suc, ◌+◌, ◌-◌, ◌≤◌, ◌<◌}
use native.Mathlib.Decide.{dec_le}
use native.Mathlib.Omega.{arith}
use lib.ListN.{get_or}
use lib.Dec.{ltb, eqb}
use borrow.Author.Tests.{lt-ltb, le-ltb}
use Rattle.text.specs.Limits.{base}
use Rattle.text.specs.Tokens.{is_space}
use Rattle.text.specs.Tree.{Bracket}
use Rattle.text.specs.declared.Refusal.TheVariants.{Grammar, Character}
use Rattle.wire.specs.Figures.{turn_of}
use Rattle.wire.specs.Inners.{move_of}
use Rattle.wire.specs.declared.Inner.{Inner}
use Rattle.wire.specs.declared.Held.{Held}
use Rattle.wire.specs.Machine.{Spot, value, first, name, colon, after, number, string, key, State, going, over, refuse, closes, after_of, word_on, on_turn, on_move, feed}
use Rattle.wire.specs.Held.{opened_of, figure_at, literal_at, inner_at, inner_code, inner_from, inner_bits, inner_high, spot_at, told_at, state_at, placed}
use Rattle.wire.proofs.Runs.{Between, at_value, at_first, at_name, at_colon, at_after}
use Rattle.wire.proofs.Fits.{InnerFits, inner_round, code_small, string_at, key_at_lem}
use Rattle.pieces.specs.Turns.{turn_at, awaited_at, behind_at, act_at, act_of, first_of, behind_of}

-- ---- a state by its words

pub at_going : (k : ℕ) (h : Held) → h.spot < 54 → state_at k h ≡ going k h.values (opened_of h.depth h.opened) (spot_at h.spot h.from h.bits h.high)
unfolding state_at
at_going k h l = rw (lt-ltb h.spot 54 l)

pub at_over : (k : ℕ) (h : Held) → 54 ≤ h.spot → state_at k h ≡ over (told_at h.spot h.from)
unfolding state_at
at_over k h l = rw (le-ltb h.spot 54 l)

-- ---- between tokens

-- no character is open there
pub spot_plain : (code f g k : ℕ) → code < 5 → spot_at code f g k ≡ spot_at code 0 0 0
unfolding spot_at
spot_plain code f g k l = rw (lt-ltb code 5 l)

pub spot_between : (code f g k : ℕ) → code < 5 → Between (spot_at code f g k)
unfolding spot_at
spot_between code f g k l = rw (lt-ltb code 5 l) (go code)
  where
    go : (c : ℕ) → Between (get_or (value ∷ first ∷ name ∷ colon ∷ []) c after)
    go zero = at_value
    go (suc zero) = at_first
    go (suc (suc zero)) = at_name
    go (suc (suc (suc zero))) = at_colon
    go (suc (suc (suc (suc c)))) = at_after

-- a place inside a string, by where the numbers of its places begin
abbrev pub strung : (start : ℕ) → Inner → Spot
strung start s = cond (ltb start 38) (string s) (key s)

module _ (at n : ℕ) (os : List Bracket) (b : ℕ) where
  pub space_stays : {spot : Spot} → Between spot → is_space b ≡ true → feed base (going at n os spot) b ≡ going (at + 1) n os spot
  unfolding feed after_of
  space_stays at_value e = rw e
  space_stays at_first e = rw e
  space_stays at_name e = rw e
  space_stays at_colon e = rw e
  space_stays at_after e = rw e

  pub act_is : {spot : Spot} → Between spot → is_space b ≡ false → feed base (going at n os spot) b ≡ act_of spot at n os b
  unfolding feed after_of act_of act_at
  act_is at_value e = rw e
  act_is at_first e = rw e
  act_is at_name e = rw e
  act_is at_colon e = rw e
  act_is at_after e = rw e

  pub after_is : is_space b ≡ false → after_of at n os b ≡ closes at n os b
  unfolding after_of
  after_is e = rw e

  -- ---- in a literal

  literal_is : (k f g h : ℕ)
      → feed base (going at n os (literal_at k)) b ≡ cond (eqb b (awaited_at k)) (going (at + 1) n os (spot_at (behind_at k) f g h)) (refuse (Grammar at))
  unfolding feed literal_at awaited_at behind_at word_on spot_at
  literal_is zero f g h = refl
  literal_is (suc zero) f g h = refl
  literal_is (suc (suc zero)) f g h = refl
  literal_is (suc (suc (suc zero))) f g h = refl
  literal_is (suc (suc (suc (suc zero)))) f g h = refl
  literal_is (suc (suc (suc (suc (suc zero))))) f g h = refl
  literal_is (suc (suc (suc (suc (suc (suc zero)))))) f g h = refl
  literal_is (suc (suc (suc (suc (suc (suc (suc zero))))))) f g h = refl
  literal_is (suc (suc (suc (suc (suc (suc (suc (suc k)))))))) f g h = refl

  behind_small : (k : ℕ) → behind_at k < 54
  unfolding behind_at
  behind_small zero = omega arith
  behind_small (suc zero) = omega arith
  behind_small (suc (suc zero)) = omega arith
  behind_small (suc (suc (suc zero))) = omega arith
  behind_small (suc (suc (suc (suc zero)))) = omega arith
  behind_small (suc (suc (suc (suc (suc zero))))) = omega arith
  behind_small (suc (suc (suc (suc (suc (suc zero)))))) = omega arith
  behind_small (suc (suc (suc (suc (suc (suc (suc zero))))))) = omega arith
  behind_small (suc (suc (suc (suc (suc (suc (suc (suc k)))))))) = omega arith

  by_byte : (x : Bool) (k : ℕ) → cond x (behind_at k) 102 ≡ 102 → x ≡ false
  by_byte true k e = let l = behind_small k in absurd (omega arith)
  by_byte false k e = refl

  on_byte : (x : Bool) (k : ℕ) → (cond x (behind_at k) 102 ≡ 102 → ⊥) → x ≡ true
  on_byte true k e = refl
  on_byte false k e = absurd (e refl)

  pub literal_told : (k next : ℕ) → next ≡ cond (eqb b (awaited_at k)) (behind_at k) 102 → next ≡ 102 → feed base (going at n os (literal_at k)) b ≡ refuse (Grammar at)
  literal_told k next e t = literal_is k 0 0 0 ∙ rw (by_byte (eqb b (awaited_at k)) k (sym e ∙ t))

  pub literal_moved : (k next f g h : ℕ) → next ≡ cond (eqb b (awaited_at k)) (behind_at k) 102 → (next ≡ 102 → ⊥)
      → (next < 54) × (feed base (going at n os (literal_at k)) b ≡ going (at + 1) n os (spot_at next f g h))
  literal_moved k next f g h e t =
      let x : eqb b (awaited_at k) ≡ true = on_byte (eqb b (awaited_at k)) k (λ z. t (e ∙ z)) in
      let d : next ≡ behind_at k = e ∙ rw x in
      (rw d (behind_small k), rw d (literal_is k f g h ∙ rw x))

  -- ---- in a number

  pub number_is : (k next : ℕ) → turn_at next ≡ turn_of (figure_at k) b → feed base (going at n os (number (figure_at k))) b ≡ on_turn at n os b (turn_at next)
  unfolding feed
  number_is k next e = rw e

  -- ---- in a string

  pub string_is : (start : ℕ) (s : Inner)
      → feed base (going at n os (strung start s)) b ≡ on_move at n os (λ x. strung start x) (spot_at (behind_of start) 0 0 0) (move_of at s b)
  unfolding feed spot_at
  string_is start s = go (ltb start 38)
    where
      go : (x : Bool) → feed base (going at n os (cond x (string s) (key s))) b
          ≡ on_move at n os (λ y. cond x (string y) (key y)) (spot_at (cond x 4 3) 0 0 0) (move_of at s b)
      go true = refl
      go false = refl

pub string_spot : (code f g k : ℕ) → 22 ≤ code → code < 54 → spot_at code f g k ≡ strung (first_of code) (inner_at (code - first_of code) f g k)
string_spot code f g k l m = elim (dec_le 38 code) [
  | yes o ↦
      let e : code ≡ 38 + (code - 38) = omega arith in
      rw (le-ltb code 38 o) (ap (λ (c : ℕ). spot_at c f g k) e ∙ key_at_lem (code - 38) f g k)
  | no o ↦
      let e : code ≡ 22 + (code - 22) = omega arith in
      rw (lt-ltb code 38 (omega arith)) (ap (λ (c : ℕ). spot_at c f g k) e ∙ string_at (code - 22) f g k (omega arith))
]

-- the words of a place inside a string mean it
pub still_is : (code : ℕ) (s : Inner) → InnerFits s
    → spot_at (first_of code + inner_code s) (inner_from s) (inner_bits s) (inner_high s) ≡ strung (first_of code) s
still_is code s h = elim (dec_le 38 code) [
  | yes o ↦ rw (le-ltb code 38 o) (key_at_lem (inner_code s) (inner_from s) (inner_bits s) (inner_high s) ∙ ap key (inner_round s h))
  | no o ↦ rw (lt-ltb code 38 (omega arith)) (string_at (inner_code s) (inner_from s) (inner_bits s) (inner_high s) (code_small s h) ∙ ap string (inner_round s h))
]

pub first_most : (code : ℕ) → (first_of code ≤ 38) × (22 ≤ first_of code)
first_most code = elim (dec_le 38 code) [
  | yes o ↦ rw (le-ltb code 38 o) (omega arith, omega arith)
  | no o ↦ rw (lt-ltb code 38 (omega arith)) (omega arith, omega arith)
]

pub first_below : (code : ℕ) → 22 ≤ code → first_of code ≤ code
first_below code l = elim (dec_le 38 code) [
  | yes o ↦ rw (le-ltb code 38 o) o
  | no o ↦ rw (lt-ltb code 38 (omega arith)) l
]

pub behind_plain : (start : ℕ) → behind_of start < 5
behind_plain start = elim (dec_le 38 start) [
  | yes o ↦ rw (le-ltb start 38 o) (omega arith)
  | no o ↦ rw (lt-ltb start 38 (omega arith)) (omega arith)
]

-- ---- the ways of the code

module _ (at : ℕ) (h : Held) (b : ℕ) where
  pub between_space : h.spot < 5 → is_space b ≡ true → state_at (at + 1) h ≡ feed base (state_at at h) b
  between_space l e =
      let m : h.spot < 54 = omega arith in
      at_going (at + 1) h m
      ∙ sym (ap (λ (s : State). feed base s b) (at_going at h m) ∙ space_stays at h.values (opened_of h.depth h.opened) b (spot_between h.spot h.from h.bits h.high l) e)

  pub between_act : (r : Held) → h.spot < 5 → is_space b ≡ false
      → state_at (at + 1) r ≡ act_of (spot_at h.spot 0 0 0) at h.values (opened_of h.depth h.opened) b → state_at (at + 1) r ≡ feed base (state_at at h) b
  between_act r l e f =
      let m : h.spot < 54 = omega arith in
      let o : List Bracket = opened_of h.depth h.opened in
      f ∙ ap (λ (s : Spot). act_of s at h.values o b) (sym (spot_plain h.spot h.from h.bits h.high l))
      ∙ sym (ap (λ (s : State). feed base s b) (at_going at h m) ∙ act_is at h.values o b (spot_between h.spot h.from h.bits h.high l) e)

  -- in a literal, by the spot that the byte leads to
  pub literal_way : (k next : ℕ) (r : Held) → next ≡ cond (eqb b (awaited_at k)) (behind_at k) 102 → next ≡ 102
      → r ≡ placed h.place h.values h.depth h.opened 102 at h.bits h.high
      → state_at (at + 1) r ≡ feed base (going at h.values (opened_of h.depth h.opened) (literal_at k)) b
  unfolding state_at told_at
  literal_way k next r e t d = rw d (sym (literal_told at h.values (opened_of h.depth h.opened) b k next e t))

  pub literal_on : (k next : ℕ) (r : Held) → next ≡ cond (eqb b (awaited_at k)) (behind_at k) 102 → (next ≡ 102 → ⊥)
      → r ≡ placed h.place h.values h.depth h.opened next h.from h.bits h.high
      → state_at (at + 1) r ≡ feed base (going at h.values (opened_of h.depth h.opened) (literal_at k)) b
  literal_on k next r e t d =
      let m = literal_moved at h.values (opened_of h.depth h.opened) b k next h.from h.bits h.high e t in
      rw d (at_going (at + 1) (placed h.place h.values h.depth h.opened next h.from h.bits h.high) m.0 ∙ sym m.1)

  -- a refusal
  pub refused_way : (p : ℕ) (r : Held) → r ≡ placed h.place h.values h.depth h.opened 102 p h.bits h.high → state_at (at + 1) r ≡ refuse (Grammar p)
  unfolding state_at told_at
  refused_way p r d = rw d

  pub character_way : (p : ℕ) (r : Held) → r ≡ placed h.place h.values h.depth h.opened 103 p h.bits h.high → state_at (at + 1) r ≡ refuse (Character p)
  unfolding state_at told_at
  character_way p r d = rw d

  -- a spot behind
  pub moved_way : (next : ℕ) (r : Held) → next < 54 → r ≡ placed h.place h.values h.depth h.opened next h.from h.bits h.high
      → state_at (at + 1) r ≡ going (at + 1) h.values (opened_of h.depth h.opened) (spot_at next h.from h.bits h.high)
  moved_way next r l d = rw d (at_going (at + 1) (placed h.place h.values h.depth h.opened next h.from h.bits h.high) l)

  -- a place inside a string
  pub still_way : (s : Inner) (r : Held) → InnerFits s
      → r ≡ placed h.place h.values h.depth h.opened (first_of h.spot + inner_code s) (inner_from s) (inner_bits s) (inner_high s)
      → state_at (at + 1) r ≡ going (at + 1) h.values (opened_of h.depth h.opened) (strung (first_of h.spot) s)
  still_way s r f d =
      let k = code_small s f in
      rw d
      (at_going (at + 1) (placed h.place h.values h.depth h.opened (first_of h.spot + inner_code s) (inner_from s) (inner_bits s) (inner_high s)) (omega (arith, (first_most h.spot).0))
      ∙ ap (going (at + 1) h.values (opened_of h.depth h.opened)) (still_is h.spot s f))

  -- in a string, by what the byte does
  pub string_way : (m : Result (Option Inner) (Fault ℕ)) → 22 ≤ h.spot → h.spot < 54 → m ≡ move_of at (inner_at (h.spot - first_of h.spot) h.from h.bits h.high) b
      → feed base (state_at at h) b
      ≡ on_move at h.values (opened_of h.depth h.opened) (λ x. strung (first_of h.spot) x) (spot_at (behind_of (first_of h.spot)) 0 0 0) m
  string_way m l u e =
      let o : List Bracket = opened_of h.depth h.opened in
      let i : Inner = inner_at (h.spot - first_of h.spot) h.from h.bits h.high in
      ap (λ (s : State). feed base s b) (at_going at h u ∙ ap (going at h.values o) (string_spot h.spot h.from h.bits h.high l u))
      ∙ string_is at h.values o b (first_of h.spot) i
      ∙ ap (λ (x : Result (Option Inner) (Fault ℕ)). on_move at h.values o (λ x. strung (first_of h.spot) x) (spot_at (behind_of (first_of h.spot)) 0 0 0) x) (sym e)

  -- a spot's class
  pub feed_at : (spot : Spot) → h.spot < 54 → spot_at h.spot h.from h.bits h.high ≡ spot
      → feed base (going at h.values (opened_of h.depth h.opened) spot) b ≡ feed base (state_at at h) b
  feed_at spot l e = ap (λ (s : State). feed base s b) (ap (going at h.values (opened_of h.depth h.opened)) (sym e) ∙ sym (at_going at h l))

pub spot_literal : (code f g k : ℕ) → 5 ≤ code → code < 14 → spot_at code f g k ≡ literal_at (code - 5)
unfolding spot_at
spot_literal code f g k l m = rw (le-ltb code 5 l, lt-ltb code 14 m)

pub spot_number : (code f g k : ℕ) → 14 ≤ code → code < 22 → spot_at code f g k ≡ number (figure_at (code - 14))
unfolding spot_at
spot_number code f g k l m = rw (le-ltb code 5 (omega arith), le-ltb code 14 l, lt-ltb code 22 m)
