-- Names that begin alike:
--     plain-none, plain_more, plain-less, agree-none, agree-more      runs of bytes, one more or fewer
--     begin-none, begin-more                      one more name
--     begin-alike                                 behind what they all begin with, names agree where they agree
--     by-common                                   the least neighbour of the sorted places is the first repeat
--     common-same                                 behind it the first repeat is the same
-- Assumes nothing.
use mathlib.Core.Path.{◌≡◌, sym, ap, ◌∙◌}
use mathlib.Core.List.{List, [], ◌∷◌, ◌++◌}
use Prim.Native.Nat.{ℕ, zero, suc, ◌+◌, ◌-◌, ◌≤◌, ◌<◌}
use native.Mathlib.Omega.{arith}
use native.Mathlib.Nat.{add-zero}
use native.Mathlib.Decide.{ℕ_discrete}
use lib.ListN.{length, get_or}
use lib.Seq.{slice}
use Rattle.laws.specs.Each.{Some}
use Rattle.laws.specs.Sorting.{Arranged}
use Rattle.text.specs.Text.{byte_at}
use Rattle.laws.specs.Earliest.{Climbs, first_repeat, place_order, least_beside}
use Rattle.repeats.specs.Quoted.{quoted_from, tail_at}
use Rattle.repeats.specs.Beginning.{PlainRun, AgreeRun, Begin}
use Rattle.repeats.proofs.Quoted.{quoted_raw}
use Rattle.laws.proofs.Earliest.{by_sorting}
use Rattle.laws.proofs.Searching.{in_slice, Alike, relabel}

-- ---- runs

pub plain_none : (t : List ℕ) (a : ℕ) → PlainRun t a 0
plain_none t a = record { no_quote = λ j h. absurd (omega arith); no_escape = λ j h. absurd (omega arith); no_end = λ j h. absurd (omega arith); inside = omega arith }

-- what holds of all below k and of k
upto : (P : ℕ → Type 0) (k : ℕ) → ((j : ℕ) → j < k → P j) → P k → (j : ℕ) → j < k + 1 → P j
upto P k f p j h = elim (ℕ_discrete j k) [
  | yes e ↦ rw e p
  | no n ↦ f j (omega arith)
]

module _ {t : List ℕ} {a k : ℕ} where
  pub plain_more : PlainRun t a k → (byte_at t (a + k) ≡ 34 → ⊥) → (byte_at t (a + k) ≡ 92 → ⊥) → (byte_at t (a + k) ≡ 256 → ⊥) → k < length t → PlainRun t a (k + 1)
  plain_more r q s e h =
      record {
        no_quote = upto (λ j. byte_at t (a + j) ≡ 34 → ⊥) k r.no_quote q;
        no_escape = upto (λ j. byte_at t (a + j) ≡ 92 → ⊥) k r.no_escape s;
        no_end = upto (λ j. byte_at t (a + j) ≡ 256 → ⊥) k r.no_end e;
        inside = omega arith;
      }

  pub plain_less : {m : ℕ} → PlainRun t a k → m ≤ k → PlainRun t a m
  plain_less r h =
      record {
        no_quote = λ j l. r.no_quote j (omega arith);
        no_escape = λ j l. r.no_escape j (omega arith);
        no_end = λ j l. r.no_end j (omega arith);
        inside = let i = r.inside in omega arith;
      }

pub agree_none : (t : List ℕ) (a b most : ℕ) → AgreeRun t a b most 0
agree_none t a b most = record { few = omega arith; alike = λ j h. absurd (omega arith) }

pub agree_more : {t : List ℕ} {a b most k : ℕ} → AgreeRun t a b most k → k < most → byte_at t (b + k) ≡ byte_at t (a + k) → AgreeRun t a b most (k + 1)
agree_more {t} {a} {b} {most} {k} r h e = record { few = omega arith; alike = upto (λ j. byte_at t (b + j) ≡ byte_at t (a + j)) k r.alike e }

-- ---- all names

pub begin_none : (t places : List ℕ) (lo k : ℕ) → PlainRun t (get_or places lo 0 + 1) k → Begin t places lo lo k
begin_none t places lo k r = record { plain = r; all = λ i h l. absurd (omega arith) }

pub begin_more : {t places : List ℕ} {lo i k m : ℕ} → Begin t places lo i k → AgreeRun t (get_or places lo 0 + 1) (get_or places i 0 + 1) k m → Begin t places lo (i + 1) m
begin_more {t} {places} {lo} {i} {k} {m} b r =
    record {
      plain = plain_less b.plain r.few;
      all = λ n h l. elim (ℕ_discrete n i) [
        | yes e ↦ rw e r.alike
        | no d ↦ (λ j g. let f = r.few in b.all n h (omega arith) j (omega arith))
      ];
    }

-- ---- what they begin with, and the rest

front : (t : List ℕ) (a k : ℕ) → List ℕ
front t a zero = []
front t a (suc k) = byte_at t a ∷ front t (a + 1) k

module _ (t : List ℕ) where
  next : (a j : ℕ) → byte_at t (a + 1 + j) ≡ byte_at t (a + suc j)
  next a j = let e : a + 1 + j ≡ a + suc j = omega arith in ap (byte_at t) e

  here : (a : ℕ) → byte_at t (a + 0) ≡ byte_at t a
  here a = ap (byte_at t) (add-zero a)

  split : (k a b : ℕ)
      → ((j : ℕ) → j < k → byte_at t (a + j) ≡ 34 → ⊥) → ((j : ℕ) → j < k → byte_at t (a + j) ≡ 92 → ⊥) → ((j : ℕ) → j < k → byte_at t (a + j) ≡ 256 → ⊥)
      → ((j : ℕ) → j < k → byte_at t (b + j) ≡ byte_at t (a + j)) → quoted_from t b ≡ front t a k ++ quoted_from t (b + k)
  unfolding front
  split zero a b q s z e = ap (quoted_from t) (sym (add-zero b))
  split (suc k) a b q s z e =
      let same : byte_at t b ≡ byte_at t a = sym (here b) ∙ e 0 (omega arith) ∙ here a in
      let place : b + 1 + k ≡ b + suc k = omega arith in
      quoted_raw t b (byte_at t a) same (λ x. q 0 (omega arith) (here a ∙ x)) (λ x. s 0 (omega arith) (here a ∙ x)) (λ x. z 0 (omega arith) (here a ∙ x))
      ∙ ap (λ (w : List ℕ). byte_at t a ∷ w)
      (split k (a + 1) (b + 1) (λ j h x. q (suc j) (omega arith) (sym (next a j) ∙ x)) (λ j h x. s (suc j) (omega arith) (sym (next a j) ∙ x))
      (λ j h x. z (suc j) (omega arith) (sym (next a j) ∙ x)) (λ j h. next b j ∙ e (suc j) (omega arith) ∙ sym (next a j))
      ∙ ap (λ (n : ℕ). front t (a + 1) k ++ quoted_from t n) place)

-- the same in front: the rest decides
cancel : (w x y : List ℕ) → w ++ x ≡ w ++ y → x ≡ y
cancel [] x y e = e
cancel (b ∷ w) x y e = let f : w ++ x ≡ w ++ y = cc in cancel w x y f

module _ {t places : List ℕ} {lo hi k : ℕ} (b : Begin t places lo hi k) (h : lo ≤ hi) (r : hi ≤ length places) where
  rest_of : (p : ℕ) → Some (λ x. x ≡ p) (slice lo hi places) → tail_at t 1 p ≡ front t (get_or places lo 0 + 1) k ++ tail_at t (k + 1) p
  rest_of p i =
      let s = in_slice (hi - lo) places lo hi p (omega arith) r i in
      let pl = b.plain in
      let e : p + 1 + k ≡ p + (k + 1) = omega arith in
      split t k (get_or places lo 0 + 1) (p + 1) pl.no_quote pl.no_escape pl.no_end (rw s.is at (b.all s.at s.from s.upto_end))
      ∙ ap (λ (n : ℕ). front t (get_or places lo 0 + 1) k ++ quoted_from t n) e

  pub begin_alike : Alike (tail_at t (k + 1)) (tail_at t 1) (slice lo hi places)
  begin_alike =
      record {
        there = λ p q i j e. rest_of p i ∙ ap (λ (w : List ℕ). front t (get_or places lo 0 + 1) k ++ w) e ∙ sym (rest_of q j);
        back = λ p q i j e. cancel (front t (get_or places lo 0 + 1) k) (tail_at t (k + 1) p) (tail_at t (k + 1) q) (sym (rest_of p i) ∙ e ∙ rest_of q j);
      }

  pub by_common : {new : List ℕ} → Climbs (slice lo hi places) → Arranged (place_order (tail_at t (k + 1))) places lo hi new
      → least_beside (tail_at t (k + 1)) (slice lo hi new) ≡ first_repeat (tail_at t 1) (slice lo hi places)
  by_common c a = by_sorting (tail_at t (k + 1)) c a.perm a.sorted ∙ relabel (tail_at t (k + 1)) (tail_at t 1) begin_alike c

  -- behind what they begin with the same name repeats one first
  pub common_same : Climbs (slice lo hi places) → first_repeat (tail_at t (k + 1)) (slice lo hi places) ≡ first_repeat (tail_at t 1) (slice lo hi places)
  common_same c = relabel (tail_at t (k + 1)) (tail_at t 1) begin_alike c
