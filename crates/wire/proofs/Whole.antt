-- The automaton's answer at the end is the measure's (`at_end`), and a refusal that it gives is certain (`refused_certain`). Cutting doesn't matter (`cut`), and
-- after an answer nothing changes (`stays`). Assumes nothing.
use Rattle.std.specs.Prelude.{Result, Ok, Err}
use mathlib.Core.Path.{◌≡◌, refl, sym, ap, ◌∙◌}
use mathlib.Core.List.{List, [], ◌∷◌, ◌++◌, append-nil}
use mathlib.Core.Bool.{Bool, true, false, cond}
use Prim.Native.Nat.{ℕ, zero, suc, ◌+◌, ◌≤◌, ◌<◌}
use native.Mathlib.Nat.{le_refl, zero-add, sub-zero}
use native.Mathlib.Decide.{dec_le}
use native.Mathlib.Omega.{arith}
use lib.ListN.{length, drop, get_or-eq_default}
use lib.Dec.{ltb, eqb}
use borrow.Author.Tests.{lt-ltb, le-ltb, ne_eqb}
use Rattle.laws.proofs.Splits.{first_there, beyond, within}
use Rattle.laws.specs.Each.{none, more}
use Rattle.text.specs.Limits.{Limits}
use Rattle.text.specs.Text.{Bytes, byte_at}
use Rattle.text.specs.Chars.{digit_of, tail_of, letter_of}
use Rattle.text.specs.Tokens.{skip, kind_by}
use Rattle.text.specs.Tree.{Bracket, square, curly, Forest, size}
use Rattle.text.specs.Reader.{Read, good, bad, value_at}
use Rattle.text.specs.Whole.{end_of, read_of}
use Rattle.text.specs.declared.Refusal.{Refusal}
use Rattle.text.specs.declared.Refusal.TheVariants.{Grammar, Character}
use Rattle.wire.specs.Measure.{lenient, reading_of, measure, Certain}
use Rattle.wire.specs.declared.Figure.{Figure}
use Rattle.wire.specs.declared.Figure.TheVariants.{Minus, Nought, Whole, Point, Fraction, Exponent, Sign, Digits}
use Rattle.wire.specs.Figures.{exp_turn, frac_turn, turn_of}
use Rattle.wire.specs.Inners.{move_of}
use Rattle.wire.specs.declared.Inner.{Inner}
use Rattle.wire.specs.declared.Inner.TheVariants.{Plain, Escape, Four, Pair, PairU, Low1, Low2, Low3, Low4, Second3, Second4, Tails}
use Rattle.wire.specs.Machine.{Spot, value, first, name, colon, after, word, number, string, key, State, going, over, start, refuse, counted, opens, begins, quotes, items, firsts, closes, after_of, on_turn, on_move, feed, finish, feeds}
use Rattle.wire.proofs.Counting.{tally, value_c}
use Rattle.wire.proofs.Resume.{finally, rest_of, spotted, resume, step}
use Rattle.wire.proofs.Sane.{SpotOk, Sane, feed_sane}

-- ---- cutting, and after an answer

pub cut : (L : Limits) (s : State) (p q : List ℕ) → feeds L s (p ++ q) ≡ feeds L (feeds L s p) q
unfolding feeds
cut L s [] q = refl
cut L s (b ∷ p) q = cut L (feed L s b) p q

pub stays : (L : Limits) (a : Result ℕ Refusal) (p : List ℕ) → feeds L (over a) p ≡ over a
unfolding feeds feed
stays L a [] = refl
stays L a (b ∷ p) = stays L a p

pub feeds_sane : (L : Limits) (i : ℕ) (s : State) (p : List ℕ) → Bytes p → Sane i s → Sane (i + length p) (feeds L s p)
unfolding feeds
feeds_sane L i s [] none k = let e : i + 0 ≡ i = omega arith in rw e k
feeds_sane L i s (b ∷ p) (more l h) k =
    let e : i + length (b ∷ p) ≡ i + 1 + length p = omega arith in
    rw e (feeds_sane L (i + 1) (feed L s b) p h (feed_sane L i s b l k))

-- ---- the end is an answer

-- what the end of the text answers after i bytes: acceptance, 2 at the length, or 3 at the start of what is open
pub data Ended (i : ℕ) : State → Type 0 where
  accepts : {n : ℕ} → Ended i (over (Ok n))
  short : Ended i (over (Err (Grammar i)))
  lone : {p : ℕ} → Ended i (over (Err (Character p)))

-- a literal awaits a byte, not the end
abbrev pub Awaits : Spot → Type 0
Awaits value = Prim.Unit {0}
Awaits first = Prim.Unit {0}
Awaits name = Prim.Unit {0}
Awaits colon = Prim.Unit {0}
Awaits after = Prim.Unit {0}
Awaits (word c bs) = c < 256
Awaits (number f) = Prim.Unit {0}
Awaits (string s) = Prim.Unit {0}
Awaits (key s) = Prim.Unit {0}

pub ok_awaits : (spot : Spot) → SpotOk spot → Awaits spot
ok_awaits value h = tt
ok_awaits first h = tt
ok_awaits name h = tt
ok_awaits colon h = tt
ok_awaits after h = tt
ok_awaits (word c bs) h = h.0
ok_awaits (number f) h = tt
ok_awaits (string s) h = tt
ok_awaits (key s) h = tt

module _ (L : Limits) (i n : ℕ) where
  closes_end : (os : List Bracket) → Ended i (closes i n os 256)
  unfolding closes
  closes_end [] = accepts
  closes_end (square ∷ os) = short
  closes_end (curly ∷ os) = short

  after_end : (os : List Bracket) → Ended i (after_of i n os 256)
  unfolding after_of
  after_end os = closes_end os

  first_end : (os : List Bracket) → Ended i (firsts L i n os 256)
  unfolding firsts items begins quotes kind_by
  first_end [] = short
  first_end (square ∷ os) = short
  first_end (curly ∷ os) = short

  move_end : (os : List Bracket) (inside : Inner → Spot) (behind : Spot) (s : Inner) → Ended i (on_move i n os inside behind (move_of i s 256))
  unfolding on_move move_of digit_of tail_of letter_of
  move_end os inside behind Plain = short
  move_end os inside behind (Escape from) = short
  move_end os inside behind (Four from left v) = short
  move_end os inside behind (Pair from high) = lone
  move_end os inside behind (PairU from high) = lone
  move_end os inside behind (Low1 from high) = lone
  move_end os inside behind (Low2 from high) = lone
  move_end os inside behind (Low3 from high v) = lone
  move_end os inside behind (Low4 from high v) = lone
  move_end os inside behind (Second3 from c) = lone
  move_end os inside behind (Second4 from c) = lone
  move_end os inside behind (Tails from left c) = lone

  turn_end : (os : List Bracket) (f : Figure) → Ended i (on_turn i n os 256 (turn_of f 256))
  unfolding on_turn turn_of frac_turn exp_turn
  turn_end os Minus = short
  turn_end os Nought = after_end os
  turn_end os Whole = after_end os
  turn_end os Point = short
  turn_end os Fraction = after_end os
  turn_end os Exponent = short
  turn_end os Sign = short
  turn_end os Digits = after_end os

  pub spot_end : (os : List Bracket) (spot : Spot) → Awaits spot → Ended i (finish L (going i n os spot))
  unfolding feed begins quotes kind_by
  spot_end os value h = short
  spot_end os first h = first_end os
  spot_end os name h = short
  spot_end os colon h = short
  spot_end os after h = after_end os
  spot_end os (word c bs) h = rw (ne_eqb 256 c (λ e. omega arith)) short
  spot_end os (number f) h = turn_end os f
  spot_end os (string s) h = move_end os (λ x. string x) after s
  spot_end os (key s) h = move_end os (λ x. key x) colon s

-- a state with an answer
pub data Over : State → Type 0 where
  told : {a : (Result ℕ Refusal)} → Over (over a)

pub over_ended : {i : ℕ} {s : State} → Ended i s → Over s
over_ended accepts = told
over_ended short = told
over_ended lone = told

pub ended : (L : Limits) (i : ℕ) (s : State) → Sane i s → Over (finish L s)
unfolding feed
ended L i (over a) h = told
ended L i (going j n os spot) h = over_ended (spot_end L j n os spot (ok_awaits spot h.1))

-- ---- whole reading goes on where the automaton stands

module _ (L : Limits) (t : List ℕ) (free : L.unique ≡ false) where
  one_more : (i : ℕ) (s : State) → Sane i s → i ≤ length t → resume L t s ≡ resume L t (feed L s (byte_at t i))
  unfolding resume feed
  one_more i (over a) k h = refl
  one_more i (going j n os spot) k h = rw (← k.0) (step L t free j n os spot (rw k.0 h))

  pub resume_feeds : (i : ℕ) (s : State) (p q : List ℕ) → Bytes p → Sane i s → drop i t ≡ p ++ q → resume L t s ≡ resume L t (feeds L s p)
  unfolding feeds
  resume_feeds i s [] q none k e = refl
  resume_feeds i s (b ∷ p) q (more m h) k e =
      let l = within t i (b ∷ []) (p ++ q) e (omega arith) in
      let here : byte_at t i ≡ b = first_there t i b (p ++ q) e 256 in
      let one : resume L t s ≡ resume L t (feed L s b) = rw here at (one_more i s k (omega arith)) in
      one ∙ resume_feeds (i + 1) (feed L s b) p q h (feed_sane L i s b m k) (beyond t i (b ∷ []) (p ++ q) e)

  -- at the end of the text
  resume_end : (s : State) → Sane (length t) s → resume L t s ≡ resume L t (finish L s)
  resume_end s k = rw (get_or-eq_default t 256 (le_refl (length t))) at (one_more (length t) s k (le_refl (length t)))

-- ---- the limits that are set aside

feed_lenient : (L : Limits) (t : List ℕ) (s : State) (b : ℕ) → feed (lenient L t) s b ≡ feed L s b
unfolding feed begins opens counted firsts items
feed_lenient L t (over a) b = refl
feed_lenient L t (going i n os value) b = refl
feed_lenient L t (going i n [] first) b = refl
feed_lenient L t (going i n (square ∷ os) first) b = refl
feed_lenient L t (going i n (curly ∷ os) first) b = refl
feed_lenient L t (going i n os name) b = refl
feed_lenient L t (going i n os colon) b = refl
feed_lenient L t (going i n os after) b = refl
feed_lenient L t (going i n os (word c bs)) b = refl
feed_lenient L t (going i n os (number f)) b = refl
feed_lenient L t (going i n os (string s)) b = refl
feed_lenient L t (going i n os (key s)) b = refl

feeds_lenient : (L : Limits) (t : List ℕ) (s : State) (p : List ℕ) → feeds (lenient L t) s p ≡ feeds L s p
unfolding feeds
feeds_lenient L t s [] = refl
feeds_lenient L t s (b ∷ p) = rw (feed_lenient L t s b) (feeds_lenient L t (feed L s b) p)

-- of bytes, each place has one
byte_there : (t : List ℕ) (i : ℕ) → Bytes t → i < length t → byte_at t i < 256
byte_there [] i h l = absurd (omega arith)
byte_there (b ∷ t) zero (more k h) l = k
byte_there (b ∷ t) (suc i) (more k h) l = byte_there t i h (omega arith)

-- so the end of a text is where 256 stands
at_last : (t : List ℕ) → Bytes t → (i : ℕ) (a b : Read) → cond (ltb i (length t)) a b ≡ cond (eqb (byte_at t i) 256) b a
at_last t h i a b = elim (dec_le (length t) i) [
  | yes l ↦ rw (le-ltb i (length t) l, get_or-eq_default t 256 l)
  | no l ↦ let m : i < length t = omega arith in let k = byte_there t i h m in rw (lt-ltb i (length t) m, ne_eqb (byte_at t i) 256 (λ e. omega arith))
]

-- the measure is what whole reading has to do from the start
measure_start : (L : Limits) (t : List ℕ) → Bytes t → measure L t ≡ resume (lenient L t) t start
unfolding measure read_of resume spotted value_c reading_of end_of rest_of
measure_start L t h =
    rw (le-ltb (length t) (length t) (le_refl (length t)), sub-zero L.depth) (go (value_at (lenient L t) t L.depth 0 0 (skip t 0) 0))
  where
    last : (x : Bool) (f : Forest) (to : ℕ) → reading_of (cond x (good f to) (bad (Grammar to))) ≡ cond x (Ok (0 + size f)) (Err (Grammar to))
    last true f to = ap Ok (sym (zero-add (size f)))
    last false f to = refl

    go : (R : Read) → reading_of (end_of t R) ≡ finally (rest_of (lenient L t) t []) (tally 0 R)
    go (bad r) = refl
    go (good f to) = ap reading_of (at_last t h (skip t to) (bad (Grammar (skip t to))) (good f (skip t to))) ∙ last (eqb (byte_at t (skip t to)) 256) f (skip t to)

-- ---- the answers

pub both_below : (p q : List ℕ) → Bytes p → Bytes q → Bytes (p ++ q)
both_below [] q none k = k
both_below (b ∷ p) q (more l h) k = more l (both_below p q h k)

start_sane : Sane 0 start
start_sane = (refl, tt)

module _ (L : Limits) (p q : List ℕ) (h : Bytes p) (k : Bytes q) where
  -- after the bytes p, whatever follows
  pub measure_feeds : measure L (p ++ q) ≡ resume (lenient L (p ++ q)) (p ++ q) (feeds L start p)
  measure_feeds =
      measure_start L (p ++ q) (both_below p q h k) ∙ resume_feeds (lenient L (p ++ q)) (p ++ q) refl 0 start p q h start_sane refl
      ∙ ap (resume (lenient L (p ++ q)) (p ++ q)) (feeds_lenient L (p ++ q) start p)

  -- a refusal that is given is certain
  pub refused_measure : (r : Refusal) → feeds L start p ≡ refuse r → measure L (p ++ q) ≡ Err r
  unfolding resume
  refused_measure r e = measure_feeds ∙ ap (resume (lenient L (p ++ q)) (p ++ q)) e

pub refused_certain : (L : Limits) (p : List ℕ) (r : Refusal) → Bytes p → feeds L start p ≡ refuse r → Certain L p r
refused_certain L p r h e q k = refused_measure L p q h k r e

-- at the end the answer is the measure's
pub at_end : (L : Limits) (p : List ℕ) → Bytes p → finish L (feeds L start p) ≡ over (measure L p)
unfolding resume
at_end L p h = go (finish L (feeds L start p)) refl (ended L (length p) (feeds L start p) sane)
  where
    sane : Sane (length p) (feeds L start p)
    sane = rw (zero-add (length p)) at (feeds_sane L 0 start p h start_sane)

    M : Limits
    M = lenient L p

    answer : measure L p ≡ resume M p (finish L (feeds L start p))
    answer =
        measure_start L p h ∙ resume_feeds M p refl 0 start p [] h start_sane (sym (append-nil p)) ∙ ap (resume M p) (feeds_lenient L p start p)
        ∙ resume_end M p refl (feeds L start p) sane ∙ ap (resume M p) (feed_lenient L p (feeds L start p) 256)

    go : (s : State) → finish L (feeds L start p) ≡ s → Over s → s ≡ over (measure L p)
    go (going at n opened spot) e x'' = elim x'' [ ]
    go (over a) e told = ap over (sym (answer ∙ ap (resume M p) e))
