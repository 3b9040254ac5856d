-- UTCDateTime byte by byte: the shape of its beginning, the fraction, and what its first nineteen bytes say. Assumes nothing.
use mathlib.Core.Path.{◌≡◌, refl, ap, ◌∙◌}
use mathlib.Core.List.{List, [], ◌∷◌, ◌++◌, append_assoc}
use mathlib.Core.Bool.{Bool, true, false, not, cond, ◌&&◌}
use Prim.Native.Nat.{ℕ, ◌+◌, ◌≤◌, ◌<◌}
use native.Mathlib.Omega.{arith}
use native.Mathlib.Numerals.{add-one}
use lib.ListN.{length, get_or, take, drop, set, length-set, get_or-append}
use lib.Seq.{take-suc-set, take_all, drop_at, drop-cons}
use lib.Dec.{eqb}
use borrow.Author.Tests.{eq-eqb, ne_eqb}
use Rattle.laws.proofs.Picks.{never}
use Rattle.text.specs.Text.{bytes}
use Rattle.text.specs.Tokens.{is_digit}
use Rattle.contact.specs.Dates.{shaped, two_at, fraction_ends, ends, in_range, is_time}

-- what a test for nothing says of what it tests
pub on : (b : Bool) → false ≡ not b → b ≡ true
on true e = refl
on false e = let z : ◌≡◌ {A = Bool} false true = e in cc

pub off : (b : Bool) → true ≡ not b → b ≡ false
off true e = let z : ◌≡◌ {A = Bool} true false = e in cc
off false e = refl

-- ---- the shape

abbrev pub shape : List ℕ
shape = bytes "dddd-dd-ddTdd:dd:dd"

module _ (p b : ℕ) (ps bs : List ℕ) where
  pub shape_on : cond (eqb p 100) (is_digit b) (eqb p b) ≡ true → shaped (p ∷ ps) (b ∷ bs) ≡ shaped ps bs
  unfolding shaped
  shape_on h = rw (shaped, h)

  pub shape_other : cond (eqb p 100) (is_digit b) (eqb p b) ≡ false → shaped (p ∷ ps) (b ∷ bs) ≡ false
  unfolding shaped
  shape_other h = rw (shaped, h)

-- ---- the fraction

module _ (last b : ℕ) where
  -- a digit is no Z
  not_z : is_digit b ≡ true → b ≡ 90 → ⊥
  not_z h e =
      let f : false ≡ true = rw e at h in
      let z : ◌≡◌ {A = ℕ} 0 1 = cc in
      omega arith

  pub fraction_on : (l : List ℕ) → is_digit b ≡ true → fraction_ends last (b ∷ l) ≡ fraction_ends b l
  unfolding fraction_ends
  fraction_on [] h = rw (ne_eqb b 90 (not_z h))
  fraction_on (x ∷ l) h = rw h

  module _ (no_digit : is_digit b ≡ false) where
    pub fraction_other : (l : List ℕ) → (b ≡ 90 → ⊥) → fraction_ends last (b ∷ l) ≡ false
    unfolding fraction_ends
    fraction_other [] ne = rw (ne_eqb b 90 ne)
    fraction_other (x ∷ l) ne = rw no_digit

    pub fraction_nought : (l : List ℕ) → last ≡ 48 → fraction_ends last (b ∷ l) ≡ false
    unfolding fraction_ends
    fraction_nought [] e = rw (eq-eqb last 48 e) (never (eqb b 90))
    fraction_nought (x ∷ l) e = rw no_digit

    pub fraction_end : (l : List ℕ) → l ≡ [] → b ≡ 90 → (last ≡ 48 → ⊥) → fraction_ends last (b ∷ l) ≡ true
    unfolding fraction_ends
    fraction_end l e is ne = rw (e, fraction_ends, eq-eqb b 90 is, ne_eqb last 48 ne)

    pub fraction_more : (l : List ℕ) {x : ℕ} {m : List ℕ} → l ≡ x ∷ m → fraction_ends last (b ∷ l) ≡ false
    unfolding fraction_ends
    fraction_more l e = rw (e, fraction_ends, no_digit)

module _ (b : ℕ) (l : List ℕ) where
  pub ends_fraction : b ≡ 46 → ends (b ∷ l) ≡ fraction_ends 48 l
  unfolding ends fraction_ends
  ends_fraction e = ap (λ (x : ℕ). ends (x ∷ l)) e ∙ dot l
    where
      dot : (m : List ℕ) → ends (46 ∷ m) ≡ fraction_ends 48 m
      dot [] = refl
      dot (x ∷ m) = refl

  pub ends_other : (b ≡ 46 → ⊥) → (b ≡ 90 → ⊥) → ends (b ∷ l) ≡ false
  unfolding ends
  ends_other n m = go l
    where
      go : (k : List ℕ) → ends (b ∷ k) ≡ false
      go [] = ne_eqb b 90 m
      go (x ∷ k) = rw (ne_eqb b 46 n)

  pub ends_here : b ≡ 90 → l ≡ [] → ends (b ∷ l) ≡ true
  unfolding ends
  ends_here e n = rw (n, ends, eq-eqb b 90 e)

  pub ends_later : b ≡ 90 → {x : ℕ} {m : List ℕ} → l ≡ x ∷ m → ends (b ∷ l) ≡ false
  unfolding ends
  ends_later e n = rw (n, e)

-- ---- the first nineteen bytes

module _ (h l : List ℕ) (full : length h ≡ 19) where
  two_of : (i : ℕ) → i + 1 < 19 → two_at (h ++ l) i ≡ two_at h i
  two_of i lt = cc (get_or-append h l 256 i (omega arith), get_or-append h l 256 (i + 1) (omega arith))

  range_of : in_range (h ++ l) ≡ in_range h
  unfolding in_range
  range_of =
      cc (
        two_of 0 (omega arith),
        two_of 2 (omega arith),
        two_of 5 (omega arith),
        two_of 8 (omega arith),
        two_of 11 (omega arith),
        two_of 14 (omega arith),
        two_of 17 (omega arith),
      )

  time_shaped : shaped shape (h ++ l) ≡ true → is_time (h ++ l) ≡ (in_range h && ends l)
  unfolding is_time
  time_shaped e = rw (e, range_of, drop_at h l 19 full)

time_other : (t : List ℕ) → shaped shape t ≡ false → is_time t ≡ false
unfolding is_time
time_other t e = rw e

-- i bytes of t are kept in h and have the shape; l is left
pub record Begun (t h l : List ℕ) (i : ℕ) : Type 0 where
  pub parts : t ≡ take i h ++ l
  pub left : shaped shape t ≡ shaped (drop i shape) l
  pub full : length h ≡ 19
  pub within : i ≤ 19

pub begun : (t h : List ℕ) → length h ≡ 19 → Begun t h t 0
begun t h e = record { parts = refl; left = refl; full = e; within = omega arith }

shape_from : (i : ℕ) → i < 19 → drop i shape ≡ get_or shape i 0 ∷ drop (i + 1) shape
shape_from i h = rw (add-one, drop-cons shape i 0)

module _ {t h l : List ℕ} {i : ℕ} where
  pub begun_over : Begun t h l i → i < 19 → l ≡ [] → is_time t ≡ false
  unfolding shaped
  begun_over g lt e = time_other t (g.left ∙ rw (e, shape_from i lt))

  module _ {b : ℕ} {r : List ℕ} (g : Begun t h l i) (lt : i < 19) (e : l ≡ b ∷ r) where
    pub begun_other : cond (eqb (get_or shape i 0) 100) (is_digit b) (eqb (get_or shape i 0) b) ≡ false → is_time t ≡ false
    begun_other differs = time_other t (g.left ∙ rw (e, shape_from i lt) (shape_other (get_or shape i 0) b (drop (i + 1) shape) r differs))

    pub begun_on : cond (eqb (get_or shape i 0) 100) (is_digit b) (eqb (get_or shape i 0) b) ≡ true → Begun t (set h i b) r (i + 1)
    begun_on suits =
        let there : i < length h = omega (arith, g.full) in
        record {
          parts = g.parts ∙ rw (e, add-one, take-suc-set h i b there, append_assoc);
          left = g.left ∙ rw (e, shape_from i lt) (shape_on (get_or shape i 0) b (drop (i + 1) shape) r suits);
          full = length-set h i b ∙ g.full;
          within = omega arith;
        }

  pub begun_done : Begun t h l i → 19 ≤ i → is_time t ≡ (in_range h && ends l)
  unfolding shaped
  begun_done g ge =
      let done : i ≡ 19 = omega (arith, g.within) in
      let whole : t ≡ h ++ l = g.parts ∙ rw (done, take_all 19 h (omega (arith, g.full))) in
      let fits : shaped shape (h ++ l) ≡ true = rw (← whole) (g.left ∙ rw done) in
      rw whole (time_shaped h l g.full fits)
