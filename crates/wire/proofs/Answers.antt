-- What the automaton answers after some bytes is what is to be said (`answers`), and nothing else is (`only`); at the end it is the measure's (`end_is`).
-- Assumes nothing.
use Rattle.std.specs.Prelude.{Result, Ok, Err}
use mathlib.Core.Path.{◌≡◌, refl, sym, ap, subst, ◌∙◌}
use mathlib.Core.List.{List, [], ◌∷◌, ◌++◌}
use Prim.Native.Nat.{ℕ, zero, suc, ◌+◌, ◌-◌, ◌≤◌, ◌<◌}
use native.Mathlib.Nat.{le_refl, zero-add}
use native.Mathlib.Decide.{dec_le}
use native.Mathlib.Omega.{arith}
use lib.ListN.{length, take, drop, take-append-drop}
use lib.Seq.{length-take-le, take-take}
use Rattle.laws.specs.Each.{none, more}
use Rattle.text.specs.Text.{Bytes}
use Rattle.text.specs.Limits.{Limits}
use Rattle.text.specs.Sheet.{refused, paper}
use Rattle.text.specs.declared.Paper.{Paper}
use Rattle.text.specs.declared.Refusal.{Refusal}
use Rattle.text.specs.declared.Refusal.TheVariants.{TooLong}
use Rattle.wire.specs.Measure.{measure, Certain, Shortest}
use Rattle.wire.specs.Machine.{State, going, over, start, feed, finish, feeds, taken, cut_off, piece}
use Rattle.wire.specs.Promise.{Open, Says, go_on, certain, too_long}
use Rattle.wire.specs.Service.{answer_of}
use Rattle.wire.proofs.Sane.{Sane}
use Rattle.wire.proofs.Whole.{cut, stays, both_below, feeds_sane, refused_certain, at_end}
use Rattle.wire.proofs.Fits.{Fits, fits_feed}
use Rattle.wire.proofs.Live.{Undecided, undecided}
use Rattle.wire.proofs.Taken.{taken_under, taken_over}

-- ---- bytes

take_below : (j : ℕ) (p : List ℕ) → Bytes p → Bytes (take j p)
take_below zero p h = none
take_below (suc j) [] none = none
take_below (suc j) (b ∷ p) (more l h) = more l (take_below j p h)

start_sane : (L : Limits) (p : List ℕ) → Bytes p → Sane (length p) (feeds L start p)
start_sane L p h = rw (zero-add (length p)) at (feeds_sane L 0 start p h (refl, tt))

-- ---- without an answer no refusal is certain

-- there is no answer yet
abbrev pub Going : State → Type 0
Going (going i n os spot) = Prim.Unit {0}
Going (over a) = ⊥

module _ (L : Limits) (p : List ℕ) (h : Bytes p) where
  -- the end after more bytes
  end_after : (s : State) → feeds L start p ≡ s → (q : List ℕ) → Bytes q → finish L (feeds L s q) ≡ over (measure L (p ++ q))
  end_after s e q k = rw (← e, ← cut L start p q) (at_end L (p ++ q) (both_below p q h k))

  not_certain : (s : State) → feeds L start p ≡ s → Undecided L s → (r : Refusal) → Certain L p r → ⊥
  not_certain s e u r c =
      u.differ
      (end_after s e u.one u.one_bytes ∙ ap over (c u.one u.one_bytes ∙ sym (c u.other u.other_bytes)) ∙ sym (end_after s e u.other u.other_bytes))

  going_open : (s : State) → feeds L start p ≡ s → Going s → (r : Refusal) → Certain L p r → ⊥
  going_open (over a) e g r c = g
  going_open (going i n os spot) e g r c =
      not_certain (going i n os spot) e (undecided L i n os spot (subst (Sane (length p)) e (start_sane L p h)).1) r c

-- after fewer bytes there is no answer either
earlier : (L : Limits) (p : List ℕ) (j : ℕ) → Going (feeds L start p) → Going (feeds L start (take j p))
earlier L p j g = go (feeds L start (take j p)) refl
  where
    go : (s : State) → feeds L start (take j p) ≡ s → Going s
    go (going i n os spot) e = tt
    go (over a) e =
        let entire : feeds L start p ≡ feeds L (feeds L start (take j p)) (drop j p) = rw (← cut L start (take j p) (drop j p), take-append-drop j p) in
        let same : feeds L start p ≡ over a = entire ∙ rw e (stays L a (drop j p)) in
        subst Going same g

all_open : (L : Limits) (p : List ℕ) → Bytes p → Going (feeds L start p) → (j : ℕ) → Open L p j
all_open L p h g j r c = going_open L (take j p) (take_below j p h) (feeds L start (take j p)) refl (earlier L p j g) r c

-- ---- the fewest bytes after which there is an answer

record First (L : Limits) (s : State) (p : List ℕ) (a : Result ℕ Refusal) : Type 0 where
  k : ℕ
  inside : k ≤ length p
  there : feeds L s (take k p) ≡ over a
  before : (j : ℕ) → j < k → Going (feeds L s (take j p))

first_told : (L : Limits) (s : State) (p : List ℕ) (a : Result ℕ Refusal) → feeds L s p ≡ over a → First L s p a
unfolding feeds
first_told L s [] a e = record { k = 0; inside = omega arith; there = e; before = λ j h. absurd (omega arith) }
first_told L s (b ∷ p) a e = go s refl (first_told L (feed L s b) p a e)
  where
    go : (r : State) → s ≡ r → First L (feed L s b) p a → First L s (b ∷ p) a
    go (over c) q f = record {
      k = 0;
      inside = omega arith;
      there = q ∙ sym (stays L c (b ∷ p)) ∙ ap (λ (x : State). feeds L x (b ∷ p)) (sym q) ∙ e;
      before = λ j h. absurd (omega arith);
    }
    go (going i n os spot) q f = record { k = suc f.k; inside = omega (arith, f.inside); there = f.there; before = earlier_ones }
      where
        earlier_ones : (j : ℕ) → j < suc f.k → Going (feeds L s (take j (b ∷ p)))
        earlier_ones zero h = subst Going (sym q) tt
        earlier_ones (suc j) h = f.before j (omega arith)

-- ---- the byte limit

pub piece_stays : (L : Limits) (a : Result ℕ Refusal) (p : List ℕ) → piece L (over a) p ≡ over a
unfolding piece taken
piece_stays L a [] = refl
piece_stays L a (b ∷ p) = piece_stays L a p

cut_stays : (L : Limits) (s : State) (p : List ℕ) → piece L (cut_off s) p ≡ cut_off s
cut_stays L (going i n os spot) p = piece_stays L (Err TooLong) p
cut_stays L (over a) p = piece_stays L a p

pub piece_short : (L : Limits) (i : ℕ) (s : State) (p : List ℕ) → Fits i s → i + length p ≤ L.bytes → piece L s p ≡ feeds L s p
unfolding piece feeds
piece_short L i s [] k l = refl
piece_short L i s (b ∷ p) k l = rw (taken_under L i s b k (omega arith)) (piece_short L (i + 1) (feed L s b) p (fits_feed L i s b k) (omega arith))

pub piece_long : (L : Limits) (i m : ℕ) (s : State) (p : List ℕ) → Fits i s → L.bytes - i ≡ m → m < length p
    → piece L s p ≡ cut_off (feeds L s (take m p))
unfolding piece feeds
piece_long L i m s [] k e l = absurd (omega arith)
piece_long L i zero s (b ∷ p) k e l = rw (taken_over L i s b k (omega arith)) (cut_stays L s p)
piece_long L i (suc m) s (b ∷ p) k e l =
    rw (taken_under L i s b k (omega arith)) (piece_long L (i + 1) m (feed L s b) p (fits_feed L i s b k) (omega arith) (omega arith))

-- ---- what a piece answers

module _ (L : Limits) (p : List ℕ) (h : Bytes p) where
  -- a refusal after some bytes q, of which each prefix is one of p
  shortest : (q : List ℕ) → Bytes q → ((j : ℕ) → j ≤ length q → take j q ≡ take j p) → length q ≤ length p → (r : Refusal)
      → (f : First L start q (Err r)) → Shortest L p f.k r
  shortest q b same le r f =
      record {
        within = omega (arith, f.inside);
        certain = rw (same f.k f.inside) at (refused_certain L (take f.k q) r (take_below f.k q b) f.there);
        not_before = λ j l s c.
            going_open L (take j q) (take_below j q b) (feeds L start (take j q)) refl (f.before j l) s (rw (← same j (omega (arith, f.inside))) at c);
      }

  pub answers : Says L p (answer_of (piece L start p))
  unfolding paper
  answers = elim (dec_le (length p) L.bytes) [
    | yes l ↦ rw (piece_short L 0 start p (refl, tt) (omega arith)) (short l (feeds L start p) refl (start_sane L p h))
    | no l ↦ rw (piece_long L 0 L.bytes start p (refl, tt) (omega arith) (omega arith))
        (long (omega arith) (feeds L start (take L.bytes p)) refl (start_sane L (take L.bytes p) (take_below L.bytes p h)))
  ]
    where
      short : length p ≤ L.bytes → (s : State) → feeds L start p ≡ s → Sane (length p) (feeds L start p) → Says L p (answer_of s)
      short l (going i n os spot) e k = go_on l (all_open L p h (subst Going (sym e) tt))
      short l (over (Ok n)) e k = absurd (subst (Sane (length p)) e k)
      short l (over (Err r)) e k =
          let f = first_told L start p (Err r) e in
          certain {k = f.k} (omega (arith, f.inside)) (shortest p h (λ j m. refl) (le_refl (length p)) r f)

      long : L.bytes < length p → (s : State) → feeds L start (take L.bytes p) ≡ s → Sane (length (take L.bytes p)) (feeds L start (take L.bytes p))
          → Says L p (answer_of (cut_off s))
      long l (going i n os spot) e k = too_long l (λ j m. rw (take-take j L.bytes p m) at (all_open L (take L.bytes p) (take_below L.bytes p h) (subst Going (sym e) tt) j))
      long l (over (Ok n)) e k = absurd (subst (Sane (length (take L.bytes p))) e k)
      long l (over (Err r)) e k =
          let f = first_told L start (take L.bytes p) (Err r) e in
          let w : length (take L.bytes p) ≡ L.bytes = length-take-le L.bytes p (omega arith) in
          certain {k = f.k} (omega (arith, f.inside)) (shortest (take L.bytes p) (take_below L.bytes p h) (λ j m. take-take j L.bytes p (omega arith)) (omega arith) r f)

  pub end_is : Going (piece L start p) → finish L (piece L start p) ≡ over (measure L p)
  end_is g = elim (dec_le (length p) L.bytes) [
    | yes l ↦ rw (piece_short L 0 start p (refl, tt) (omega arith)) (at_end L p h)
    | no l ↦ never (feeds L start (take L.bytes p)) (rw (piece_long L 0 L.bytes start p (refl, tt) (omega arith) (omega arith)) at g)
  ]
    where
      never : {A : Type 0} (s : State) → Going (cut_off s) → A
      never (going i n os spot) e = absurd e
      never (over a) e = absurd e

  -- before the end no text is accepted
  pub not_rows : (n : ℕ) → piece L start p ≡ over (Ok n) → ⊥
  not_rows n e = elim (dec_le (length p) L.bytes) [
    | yes l ↦ subst (Sane (length p)) (sym (piece_short L 0 start p (refl, tt) (omega arith)) ∙ e) (start_sane L p h)
    | no l ↦
        late (feeds L start (take L.bytes p)) (start_sane L (take L.bytes p) (take_below L.bytes p h))
        (sym (piece_long L 0 L.bytes start p (refl, tt) (omega arith) (omega arith)) ∙ e)
  ]
    where
      late : (s : State) → Sane (length (take L.bytes p)) s → cut_off s ≡ over (Ok n) → ⊥
      late (going i m os spot) k e = let z : ◌≡◌ {A = ℕ} 0 1 = cc in omega arith
      late (over (Ok m)) k e = k
      late (over (Err r)) k e = let z : ◌≡◌ {A = ℕ} 0 1 = cc in omega arith

-- ---- only one

same_refusal : {r q : Refusal} → ◌≡◌ {A = Result ℕ Refusal} (Err r) (Err q) → r ≡ q
same_refusal e = cc

pub only : (L : Limits) (p : List ℕ) {a b : Paper} → Says L p a → Says L p b → a ≡ b
only L p (go_on l o) (go_on m u) = refl
only L p (go_on l o) (certain {k} {r} m s) = absurd (o k r s.certain)
only L p (go_on l o) (too_long m u) = absurd (omega arith)
only L p (certain {k} {r} l s) (go_on m u) = absurd (u k r s.certain)
only L p (certain {k} {r} l s) (too_long m u) = absurd (u k l r s.certain)
only L p (too_long l o) (go_on m u) = absurd (omega arith)
only L p (too_long l o) (certain {k} {r} m s) = absurd (o k m r s.certain)
only L p (too_long l o) (too_long m u) = refl
only L p (certain {k} {r} l s) (certain {k = j} {r = q} m u) = elim (dec_le k j) [
  | yes x ↦ elim (dec_le j k) [
    | yes y ↦
        let e : k ≡ j = omega arith in
        let c : Certain L (take k p) q = rw (← e) at u.certain in
        ap refused (same_refusal (sym (s.certain [] none) ∙ c [] none))
    | no y ↦ absurd (u.not_before k (omega arith) r s.certain)
  ]
  | no x ↦ absurd (s.not_before j (omega arith) q u.certain)
]

-- ---- cutting

pub piece_cut : (L : Limits) (s : State) (p q : List ℕ) → piece L s (p ++ q) ≡ piece L (piece L s p) q
unfolding piece
piece_cut L s [] q = refl
piece_cut L s (b ∷ p) q = piece_cut L (taken L s b) p q
