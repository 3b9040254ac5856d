-- What is promised of a reader in pieces (specs/Promise.antt) holds of `wired`: `in_pieces`, for all limits. Assumes nothing.
use Rattle.std.specs.Prelude.{Result, Ok, Err}
use mathlib.Core.Path.{◌≡◌, refl, sym, ap, ◌∙◌}
use mathlib.Core.Logic.{inl, inr}
use mathlib.Core.List.{List, [], ◌++◌}
use Prim.Native.Nat.{ℕ, ◌+◌}
use native.Mathlib.Omega.{arith}
use lib.ListN.{length}
use Rattle.laws.specs.Each.{none}
use Rattle.text.specs.Text.{Bytes}
use Rattle.text.specs.Limits.{Limits}
use Rattle.text.specs.Sheet.{refused, paper}
use Rattle.text.specs.declared.Paper.{Paper}
use Rattle.text.specs.declared.Refusal.{Refusal}
use Rattle.text.specs.declared.Refusal.TheVariants.{TooLong, Grammar, Character, Repeated, Deep, Many, Small}
use Rattle.wire.specs.Measure.{measure}
use Rattle.wire.specs.Machine.{State, going, over, start, feed, finish, piece}
use Rattle.wire.specs.Held.{state_of, held_of, words_of, held_in}
use Rattle.wire.specs.Promise.{After, nothing, go_on_answer, Says, Answers, acceptance, refusal, Final, InPieces}
use Rattle.wire.specs.Service.{answer_of, kept, meant, wired}
use Rattle.wire.proofs.Whole.{Over, told, both_below}
use Rattle.wire.proofs.Fits.{Tells, Fits, fits_feed, fits_piece, fits_at, round, words_round, finish_over}
use Rattle.wire.proofs.Answers.{Going, piece_stays, piece_cut, answers, only, end_is, not_rows}

-- the words of a state mean it
meant_kept : (i : ℕ) (s : State) → Fits i s → meant (words_of (held_of s)) ≡ s
meant_kept i s h = ap state_of (words_round (held_of s)) ∙ round i s h

-- ---- demand 1

tells_answers : (a : Result ℕ Refusal) → Tells a → Answers (paper a)
unfolding paper refused
tells_answers (Ok n) h = acceptance
tells_answers (Err TooLong) h = refusal {number = 1} (inl (omega arith, omega arith))
tells_answers (Err (Grammar p)) h = refusal {number = 2} (inl (omega arith, omega arith))
tells_answers (Err (Character p)) h = refusal {number = 3} (inl (omega arith, omega arith))
tells_answers (Err (Repeated p)) h = absurd h
tells_answers (Err (Deep p)) h = refusal {number = 5} (inr (omega arith, omega arith))
tells_answers (Err (Many p)) h = refusal {number = 6} (inr (omega arith, omega arith))
tells_answers (Err (Small n)) h = absurd h

state_answers : (i : ℕ) (s : State) → Fits i s → Answers (answer_of s)
state_answers i (going j n os spot) h = acceptance
state_answers i (over a) h = tells_answers a h

-- ---- from the start on

module _ (L : Limits) where
  start_fits : (p : List ℕ) → Fits (0 + length p) (piece L start p)
  start_fits p = fits_piece L 0 start p (refl, tt)

  record Reached (p words : List ℕ) : Type 0 where
    bytes : Bytes p
    state : words ≡ words_of (held_of (piece L start p))

  after_meant : {p words : List ℕ} → Reached p words → meant words ≡ piece L start p
  after_meant {p} r = ap meant r.state ∙ meant_kept (0 + length p) (piece L start p) (start_fits p)

  reached : {p words : List ℕ} → After (wired L) p words → Reached p words
  unfolding wired piece
  reached nothing = record { bytes = none; state = refl }
  reached (After.piece {p} {words} q b a) =
      let r = reached a in
      record {
        bytes = both_below p q r.bytes b;
        state = ap (λ (s : State). words_of (held_of (piece L s q))) (after_meant r) ∙ ap (λ (s : State). words_of (held_of s)) (sym (piece_cut L start p q));
      }

  after_piece : {p words : List ℕ} → After (wired L) p words → (q : List ℕ) → piece L (meant words) q ≡ piece L start (p ++ q)
  after_piece {p} a q = ap (λ (s : State). piece L s q) (after_meant (reached a)) ∙ sym (piece_cut L start p q)

  piece_answers : {p words : List ℕ} → After (wired L) p words → (q : List ℕ) → Bytes q → Says L (p ++ q) ((wired L).take words q).answer
  unfolding wired
  piece_answers {p} a q b = rw (after_piece a q) (answers L (p ++ q) (both_below p q (reached a).bytes b))

  -- what was said of the bytes so far
  said_so_far : {p words : List ℕ} → After (wired L) p words → Says L p (answer_of (meant words))
  said_so_far {p} a = rw (after_meant (reached a)) (answers L p (reached a).bytes)

  -- ---- the end

  number_of : (r : Refusal) → paper (Err r) ≡ go_on_answer → ⊥
  unfolding paper refused
  number_of TooLong e = let z : ◌≡◌ {A = ℕ} 1 0 = ap (λ (p : Paper). p.number) e in omega arith
  number_of (Grammar p) e = let z : ◌≡◌ {A = ℕ} 2 0 = ap (λ (p : Paper). p.number) e in omega arith
  number_of (Character p) e = let z : ◌≡◌ {A = ℕ} 3 0 = ap (λ (p : Paper). p.number) e in omega arith
  number_of (Repeated p) e = let z : ◌≡◌ {A = ℕ} 4 0 = ap (λ (p : Paper). p.number) e in omega arith
  number_of (Deep p) e = let z : ◌≡◌ {A = ℕ} 5 0 = ap (λ (p : Paper). p.number) e in omega arith
  number_of (Many p) e = let z : ◌≡◌ {A = ℕ} 6 0 = ap (λ (p : Paper). p.number) e in omega arith
  number_of (Small n) e = let z : ◌≡◌ {A = ℕ} 7 0 = ap (λ (p : Paper). p.number) e in omega arith

  still_going : (p : List ℕ) → Bytes p → (s : State) → piece L start p ≡ s → answer_of s ≡ go_on_answer → Going s
  still_going p b (going i n os spot) e g = tt
  still_going p b (over (Ok n)) e g = not_rows L p b n e
  still_going p b (over (Err r)) e g = number_of r g

  at_end : {p words : List ℕ} → After (wired L) p words → Says L p go_on_answer → ((wired L).end words).answer ≡ paper (measure L p)
  unfolding wired
  at_end {p} a s =
      let r = reached a in
      let g : answer_of (piece L start p) ≡ go_on_answer = only L p (answers L p r.bytes) s in
      let ended = end_is L p r.bytes (still_going p r.bytes (piece L start p) refl g) in
      ap (λ (x : State). answer_of (finish L x)) (after_meant r) ∙ ap answer_of ended

  over_ends : (s : State) {a : Paper} → answer_of s ≡ a → (a ≡ go_on_answer → ⊥) → answer_of (finish L s) ≡ a
  unfolding feed
  over_ends (going i n os spot) e h = absurd (h (sym e))
  over_ends (over x) e h = e

  end_refused : {p words : List ℕ} {a : Paper} → After (wired L) p words → Says L p a → (a ≡ go_on_answer → ⊥) → ((wired L).end words).answer ≡ a
  unfolding wired
  end_refused {p} {words} a s h = over_ends (meant words) (only L p (said_so_far a) s) h

  -- ---- what stays

  over_final : (a : Result ℕ Refusal) → Tells a → Final (wired L) (kept (over a))
  unfolding wired feed
  over_final a h =
      let m : meant (words_of (held_of (over a))) ≡ over a = meant_kept 0 (over a) h in
      record { further_piece = λ q. rw (m, piece_stays L a q); further_end = rw m }

  refused_final : (i : ℕ) (s : State) → Fits i s → (answer_of s ≡ go_on_answer → ⊥) → Final (wired L) (kept s)
  refused_final i (going j n os spot) h g = absurd (g refl)
  refused_final i (over a) h g = over_final a h

  ended_final : (i : ℕ) (s : State) → Fits i s → Over s → Final (wired L) (kept s)
  ended_final i (going at n opened spot) h x'' = elim x'' [ ]
  ended_final i (over a) h told = over_final a h

  empty : {p words : List ℕ} → After (wired L) p words → ((wired L).take words []).words ≡ words
  unfolding wired piece
  empty a = let r = reached a in ap (λ (s : State). words_of (held_of s)) (after_meant r) ∙ sym r.state

-- any words, after a piece and at the end
module _ (L : Limits) (words : List ℕ) where
  abbrev place : ℕ
  place = (held_in words).place

  any_fits : Fits place (meant words)
  any_fits = fits_at place (held_in words)

  taken_fits : (q : List ℕ) → Fits (place + length q) (piece L (meant words) q)
  taken_fits q = fits_piece L place (meant words) q any_fits

  ended_fits : Fits (place + 1) (finish L (meant words))
  ended_fits = fits_feed L place (meant words) 256 any_fits

-- the words that are left of a state mean it, so that its answer can be read off them
pub kept_take : (L : Limits) (words q : List ℕ) → state_of (held_of (piece L (meant words) q)) ≡ piece L (meant words) q
kept_take L words q = round _ (piece L (meant words) q) (taken_fits L words q)

pub kept_end : (L : Limits) (words : List ℕ) → state_of (held_of (finish L (meant words))) ≡ finish L (meant words)
kept_end L words = round _ (finish L (meant words)) (ended_fits L words)

pub in_pieces : (L : Limits) → InPieces L (wired L)
unfolding wired
in_pieces L =
    record {
      take_ends = λ words q. (state_answers _ (piece L (meant words) q) (taken_fits L words q), refl);
      end_ends = λ words. (state_answers _ (finish L (meant words)) (ended_fits L words), refl);
      answers = λ a q b. piece_answers L a q b;
      only = only L;
      at_end = λ a s. at_end L a s;
      end_refused = λ a s h. end_refused L a s h;
      cutting = λ a b. (reached L a).state ∙ sym (reached L b).state;
      empty = λ a. empty L a;
      refused_stays = λ words q h. refused_final L _ (piece L (meant words) q) (taken_fits L words q) h;
      end_stays = λ words. ended_final L _ (finish L (meant words)) (ended_fits L words) (finish_over L _ (meant words) (any_fits L words));
    }
