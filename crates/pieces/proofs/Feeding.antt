-- Bytes one after another, and what is left of a state at the end of a call:
--     run_at, one_more          the state after some bytes of a text: behind a run, and behind one byte more
--     over-all, over-last       where there is an answer, the rest changes nothing
--     inside-still              where there is none, the byte stood in the text
--     piece-room                a piece for which the limit leaves room
--     answer-words              an answer by its words
-- Assumes nothing.
use Rattle.std.specs.Prelude.{Result, Ok, Err}
use Rattle.text.specs.declared.Refusal.{Refusal}
use mathlib.Core.Path.{◌≡◌, refl, sym, ap, ◌∙◌}
use mathlib.Core.List.{List, [], ◌∷◌}
use mathlib.Core.Bool.{Bool, true, false, cond}
use Prim.Native.Nat.{ℕ, zero, suc, ◌+◌, ◌-◌, ◌≤◌, ◌<◌}
use native.Mathlib.Decide.{dec_le}
use native.Mathlib.Omega.{arith}
use lib.ListN.{length, take, get_or-eq_default}
use lib.Seq.{slice, take_all, length-take-le}
use lib.Dec.{ltb}
use borrow.Author.Tests.{lt-ltb, le-ltb}
use Rattle.laws.proofs.Places.{any_default}
use Rattle.laws.proofs.Slices.{slice_more, slice_none, slice_split, slice_all}
use Rattle.text.specs.Limits.{Limits, base}
use Rattle.text.specs.Text.{byte_at}
use Rattle.text.specs.Tree.{Bracket}
use Rattle.text.specs.Sheet.{numbers, refused, paper}
use Rattle.text.specs.declared.Refusal.TheVariants.{TooLong, Grammar, Character, Repeated, Deep, Many, Small}
use Rattle.wire.specs.declared.Held.{Held}
use Rattle.wire.specs.Machine.{Spot, State, going, over, feed, finish, feeds, cut_off, piece}
use Rattle.wire.specs.Held.{opened_of, spot_at, told_at, state_at, state_of, held_of, placed}
use Rattle.wire.specs.Service.{answer_of}
use Rattle.wire.proofs.Whole.{Over, told, cut, stays}
use Rattle.wire.proofs.Fits.{Fits, fits_at, finish_over}
use Rattle.wire.proofs.Answers.{piece_short, piece_long}
use Rattle.pieces.specs.Turns.{ended}
use Rattle.pieces.specs.Passing.{Leads}
use Rattle.pieces.proofs.Steps.{at_going, at_over}

-- how many bytes the end counts for
abbrev pub one : Bool → ℕ
one false = 0
one true = 1

-- the state s and then the first i bytes of t; the words are those at `place` and i more
abbrev pub After : State → List ℕ → (place i : ℕ) → Held → Type 0
After s t place i h = state_at (place + i) h ≡ feeds base s (slice 0 i t)

module _ (s : State) (t : List ℕ) (place : ℕ) where
  pub none_yet : (h : Held) → state_at place h ≡ s → After s t place 0 h
  unfolding feeds
  none_yet h e = let z : place + 0 ≡ place = omega arith in rw z e

  pub run_at : (i next to : ℕ) (h r : Held) → h.spot < 54 → After s t place i h → Leads h.spot t i next to
      → r ≡ placed h.place h.values h.depth h.opened next h.from h.bits h.high → After s t place to r
  run_at i next to h r u a l e =
      let os : List Bracket = opened_of h.depth h.opened in
      let k : place + i + (to - i) ≡ place + to = omega (arith, l.later) in
      let here : going (place + i) h.values os (spot_at h.spot h.from h.bits h.high) ≡ feeds base s (slice 0 i t) = sym (at_going (place + i) h u) ∙ a in
      rw (
        e,
        at_going (place + to) (placed h.place h.values h.depth h.opened next h.from h.bits h.high) l.going_on,
        slice_split 0 i to t (omega arith) l.later l.inside,
        cut base s (slice 0 i t) (slice i to t),
        ← here,
        ← k,
      )
      (sym (l.leads (place + i) h.values os h.from h.bits h.high))

  -- some bytes and one more
  split_one : (to : ℕ) → to < length t → feeds base s (slice 0 (to + 1) t) ≡ feed base (feeds base s (slice 0 to t)) (byte_at t to)
  unfolding feeds
  split_one to l =
      rw (
        slice_split 0 to (to + 1) t (omega arith) (omega arith) (omega arith),
        slice_more to (to + 1) t (omega arith) (omega arith),
        slice_none (to + 1) (to + 1) t (omega arith) (omega arith),
        any_default 0 256 t to l,
        cut base s (slice 0 to t) (byte_at t to ∷ []),
      )

  pub one_more : (to : ℕ) (h r : Held) → to < length t → After s t place to h → state_at (place + to + 1) r ≡ feed base (state_at (place + to) h) (byte_at t to)
      → After s t place (to + 1) r
  one_more to h r l a e =
      let k : place + (to + 1) ≡ place + to + 1 = omega arith in
      rw k (e ∙ ap (λ (x : State). feed base x (byte_at t to)) a ∙ sym (split_one to l))

  -- all of them
  pub all_of : feeds base s (slice 0 (length t) t) ≡ feeds base s t
  all_of = ap (feeds base s) (slice_all t)

  over_on : (i : ℕ) (a : Result ℕ Refusal) → i ≤ length t → feeds base s (slice 0 i t) ≡ over a → feeds base s t ≡ over a
  over_on i a l e =
      sym all_of
      ∙ rw (slice_split 0 i (length t) t (omega arith) l (omega arith), cut base s (slice 0 i t) (slice i (length t) t), e) (stays base a (slice i (length t) t))

  ended_over : (last : Bool) (x : State) (a : Result ℕ Refusal) → x ≡ over a → ended last x ≡ over a
  unfolding feed
  ended_over false x a e = e
  ended_over true x a e = rw e

  -- an answer, whether a byte of the text brought it or its end
  pub over_all : (to : ℕ) (last : Bool) (h r : Held) → to ≤ length t → (to ≡ length t + one last → ⊥) → 54 ≤ r.spot → After s t place to h
      → state_at (place + to + 1) r ≡ feed base (state_at (place + to) h) (byte_at t to) → state_at r.place r ≡ ended last (feeds base s t)
  over_all to last h r l n u a e = elim (dec_le (length t) to) [
    | no o ↦
        let m : to < length t = omega arith in
        let there = at_over r.place r u in
        let now-over = sym (one_more to h r m a e) ∙ at_over (place + (to + 1)) r u in
        there ∙ sym (ended_over last (feeds base s t) (told_at r.spot r.from) (over_on (to + 1) (told_at r.spot r.from) (omega arith) now-over))
    | yes o ↦ at_last last (omega arith) n
  ]
    where
      at_last : (last : Bool) → to ≡ length t → (to ≡ length t + one last → ⊥) → state_at r.place r ≡ ended last (feeds base s t)
      at_last false q n = absurd (n (omega arith))
      at_last true q n =
          let end : byte_at t to ≡ 256 = get_or-eq_default t 256 (omega arith) in
          at_over r.place r u ∙ sym (at_over (place + to + 1) r u) ∙ e ∙ ap (λ (x : State). feed base x (byte_at t to)) a
          ∙ rw (end, q) (ap (finish base) all_of)

-- where there is no answer, the byte stood in the text
pub inside_still : (t : List ℕ) (place to : ℕ) (h r : Held) → r.spot < 54 → state_at (place + 1) r ≡ feed base (state_at place h) (byte_at t to) → to < length t
inside_still t place to h r u e = elim (dec_le (length t) to) [
  | yes o ↦ absurd (never (finish base (state_at place h)) (sym (at_going (place + 1) r u) ∙ e ∙ ap (feed base (state_at place h)) (get_or-eq_default t 256 o)) (finish_over base place (state_at place h) (fits_at place h)))
  | no o ↦ omega arith
]
  where
    never : {i n : ℕ} {os : List Bracket} {spot : Spot} (x : State) → going i n os spot ≡ x → Over x → ⊥
    never {i = i} {n = n} {os = os} {spot = spot} (going at _ opened _) e x3 = elim x3 [ ]
    never (over a) e told = let z : ◌≡◌ {A = ℕ} 0 1 = cc in omega arith

-- ---- a piece within the limit

pub piece_room : (L : Limits) (i : ℕ) (s : State) (p : List ℕ) → Fits i s → length p ≤ L.bytes - i → piece L s p ≡ feeds L s p
unfolding piece feeds
piece_room L i s [] f l = refl
piece_room L i s (b ∷ p) f l = piece_short L i s (b ∷ p) f (omega arith)

-- ---- all bytes, with no answer yet

pub all_fed : (s : State) (t : List ℕ) (place to : ℕ) (last : Bool) (h r : Held) → to ≤ length t → to ≡ length t + one last → After s t place to h
    → r ≡ placed (place + to) h.values h.depth h.opened h.spot h.from h.bits h.high → state_at r.place r ≡ ended last (feeds base s t)
unfolding state_at
all_fed s t place to false h r l q a e =
    let k : to ≡ length t = omega arith in
    rw e (a ∙ rw k (all_of s t place))
all_fed s t place to true h r l q a e = absurd (omega arith)

-- so many bytes are within the limit
pub within_most : (size room : ℕ) → (cond (ltb size room) size room ≤ size) × (cond (ltb size room) size room ≤ room) × (cond (ltb size room) size room < size → cond (ltb size room) size room ≡ room)
within_most size room = elim (dec_le room size) [
  | yes l ↦ rw (le-ltb size room l) (l, omega arith, λ m. refl)
  | no l ↦ rw (lt-ltb size room (omega arith)) (omega arith, omega arith, λ m. absurd (omega arith))
]

module _ (h : Held) (p : List ℕ) (m : ℕ) (w : m ≡ cond (ltb (length p) (1048576 - h.place)) (length p) (1048576 - h.place)) where
  -- a piece that goes beyond the limit
  pub taken_long : (got : State) → m < length p → got ≡ feeds base (state_of h) (take m p) → cut_off got ≡ piece base (state_of h) p
  taken_long got l e =
      let b = within_most (length p) (1048576 - h.place) in
      rw e (sym (piece_long base h.place m (state_of h) p (fits_at h.place h) (sym (w ∙ b.2 (rw (← w) l))) l))

  -- one that doesn't
  pub taken_short : (got : State) → length p ≤ m → got ≡ feeds base (state_of h) (take m p) → got ≡ piece base (state_of h) p
  taken_short got l e =
      let b = within_most (length p) (1048576 - h.place) in
      let most : m ≤ 1048576 - h.place = rw w b.1 in
      e ∙ ap (feeds base (state_of h)) (take_all m p l) ∙ sym (piece_room base h.place (state_of h) p (fits_at h.place h) (omega arith))

  -- as many stand in the piece
  pub taken_length : (m ≡ length (take m p)) × (length (take m p) ≤ 1048576 - h.place)
  taken_length =
      let b = within_most (length p) (1048576 - h.place) in
      let small : m ≤ length p = rw w b.0 in
      let most : m ≤ 1048576 - h.place = rw w b.1 in
      let e = length-take-le m p small in
      (sym e, rw e most)

-- ---- an answer by its words

pub answer_words_lem : (a : Result ℕ Refusal) → numbers (100 + (paper a).number - 100) (paper a).second 0 ≡ paper a
unfolding paper refused
answer_words_lem (Ok n) = refl
answer_words_lem (Err TooLong) = refl
answer_words_lem (Err (Grammar p)) = refl
answer_words_lem (Err (Character p)) = refl
answer_words_lem (Err (Repeated p)) = refl
answer_words_lem (Err (Deep p)) = refl
answer_words_lem (Err (Many p)) = refl
answer_words_lem (Err (Small n)) = refl

pub answer_is : (h r : Held) → 54 ≤ h.spot → r ≡ held_of (state_of h) → (100 ≤ r.spot) × (numbers (r.spot - 100) r.from 0 ≡ answer_of (state_of h))
unfolding held_of
answer_is h r l e =
    let o = at_over h.place h l in
    rw (e, o) (omega arith, answer_words_lem (told_at h.spot h.from))
