-- The bytes of a token: what stands in the text from its first byte to its end (specs/Placed.antt).
--     by_kind           the kind that a byte begins says which byte it is
--     word_bytes        the bytes of a literal
--     kind-first        and that it is one of the kind's first bytes
--     number-bytes      the bytes of a number are a number of the grammar
--     token-in          a token of a kind has the bytes that the kind asks
-- Assumes nothing.
use Rattle.std.specs.Prelude.{Ok, Err}
use Rattle.text.specs.declared.Fault.TheVariants.{Malformed}
use Prim.Native.Nat.{ℕ, ◌+◌, ◌-◌, ◌≤◌, ◌<◌}
use mathlib.Core.Path.{◌≡◌, refl, subst, ◌∙◌}
use mathlib.Core.List.{List, [], ◌∷◌}
use mathlib.Core.Bool.{Bool, true, false, cond}
use native.Mathlib.Decide.{dec_le}
use native.Mathlib.Omega.{arith}
use lib.ListN.{length, get_or-eq_default}
use lib.Dec.{eqb}
use borrow.Author.Tests.{eqb-true}
use Rattle.laws.specs.Lists.{part_of}
use Rattle.laws.proofs.Parts.{part_none, part_more}
use Rattle.text.specs.Text.{byte_at, bytes}
use Rattle.text.specs.Strings.{string_end}
use Rattle.text.specs.Tokens.{is_digit, word_at, number_at, kind_by, token_at}
use Rattle.text.specs.Tree.{square, curly}
use Rattle.text.specs.Firsts.{ScalarKind}
use Rattle.text.specs.Grammar.{Number}
use Rattle.text.specs.Placed.{Quoted, FirstByte, TokenIn, null, falsity, truth, number, string}
use Rattle.text.proofs.TokenEnds.{Span, token_span}
use Rattle.text.proofs.Spelling.Ends.{ended_spells}
use Rattle.text.proofs.Grammar.Stands.{BytesStand, stands_to, stands_inside}
use Rattle.text.proofs.Grammar.Exact.{HasWord}
use Rattle.text.proofs.Grammar.Number.{digit_tells, number_exact}

-- ---- the kind of a first byte ----

pick : {P : Type 0} (x : Bool) (a c k : ℕ) → cond x a c ≡ k → (x ≡ true → a ≡ k → P) → (x ≡ false → c ≡ k → P) → P
pick true a c k e p q = p refl e
pick false a c k e p q = q refl e

-- each kind with its bytes
pub by_kind : {P : Type 0} (b k : ℕ) → kind_by b ≡ k
    → (b ≡ 110 → 1 ≡ k → P) → (b ≡ 102 → 2 ≡ k → P) → (b ≡ 116 → 3 ≡ k → P) → (b ≡ 45 → 4 ≡ k → P) → (b ≡ 34 → 5 ≡ k → P) → (b ≡ 91 → 6 ≡ k → P) → (b ≡ 123 → 7 ≡ k → P)
    → (is_digit b ≡ true → 4 ≡ k → P) → (0 ≡ k → P) → P
unfolding kind_by
by_kind b k e p1 p2 p3 p4 p5 p6 p7 p8 p0 =
    pick (eqb b 110) 1 _ k e (λ x. p1 (eqb-true b 110 x))
    (λ x1 e1. pick (eqb b 102) 2 _ k e1 (λ x. p2 (eqb-true b 102 x))
    (λ x2 e2. pick (eqb b 116) 3 _ k e2 (λ x. p3 (eqb-true b 116 x))
    (λ x3 e3. pick (eqb b 45) 4 _ k e3 (λ x. p4 (eqb-true b 45 x))
    (λ x4 e4. pick (eqb b 34) 5 _ k e4 (λ x. p5 (eqb-true b 34 x))
    (λ x5 e5. pick (eqb b 91) 6 _ k e5 (λ x. p6 (eqb-true b 91 x))
    (λ x6 e6. pick (eqb b 123) 7 _ k e6 (λ x. p7 (eqb-true b 123 x))
    (λ x7 e7. pick (is_digit b) 4 0 k e7 p8 (λ x8. p0))))))))

-- so it is that kind's first byte
pub kind_first : (b k : ℕ) → 0 < k → kind_by b ≡ k → FirstByte k b
kind_first b k h e =
    by_kind b k e (λ x y. rw (x, ← y) FirstByte.null) (λ x y. rw (x, ← y) FirstByte.falsity) (λ x y. rw (x, ← y) FirstByte.truth)
    (λ x y. rw (x, ← y) FirstByte.minus) (λ x y. rw (x, ← y) FirstByte.quote) (λ x y. rw (x, ← y) (FirstByte.bracket square))
    (λ x y. rw (x, ← y) (FirstByte.bracket curly)) (λ x y. rw (← y) (FirstByte.digit (digit_tells.sure b x))) (λ y. absurd (omega arith))

-- where a kind begins, the text has not ended
pub kind_inside : (t : List ℕ) (i k : ℕ) → 0 < k → kind_by (byte_at t i) ≡ k → i < length t
unfolding kind_by
kind_inside t i k h e = elim (dec_le (length t) i) [
  | yes p ↦
      let end : byte_at t i ≡ 256 = get_or-eq_default t 256 p in
      let z : 0 ≡ k = rw end at e in
      absurd (omega arith)
  | no p ↦ omega arith
]

-- ---- literals ----

pub record LiteralAt (t bs : List ℕ) (i to : ℕ) : Type 0 where
  pub end : to ≡ i + length bs
  pub is : part_of t i to ≡ bs

pub word_bytes : (t bs : List ℕ) (i to : ℕ) → to ≤ length t → word_at t bs i ≡ Ok to → LiteralAt t bs i to
unfolding word_at
word_bytes t [] i to k e =
    let same : i ≡ to = cc in
    record { end = omega arith; is = rw (← same) (part_none t i (omega arith)) }
word_bytes t (b ∷ bs) i to k e = go (eqb (byte_at t i) b) refl e (word_bytes t bs (i + 1) to k)
  where
    go : (x : Bool) → eqb (byte_at t i) b ≡ x → cond x (word_at t bs (i + 1)) (Err (Malformed i)) ≡ Ok to → (word_at t bs (i + 1) ≡ Ok to → LiteralAt t bs (i + 1) to)
        → LiteralAt t (b ∷ bs) i to
    go true q r more =
        let w = more r in
        let first = eqb-true (byte_at t i) b q in
        record { end = omega (arith, w.end); is = part_more t i to (omega (arith, w.end)) k ∙ rw (first, w.is) }
    go false q r more = let z : ◌≡◌ {A = ℕ} 0 1 = cc in absurd (omega arith)

-- ---- numbers ----

-- bytes that stand from a place to another are the part between the two
stands_part : {t : List ℕ} {at to : ℕ} {w : List ℕ} → BytesStand t at to w → at ≤ length t → part_of t at to ≡ w
stands_part {t} {at} BytesStand.done l = part_none t at l
stands_part {t} {at} {to} (BytesStand.next e i s) l =
    part_more t at to (omega (arith, stands_to s)) (stands_inside s (omega arith)) ∙ rw (e, stands_part s (omega arith))

pub number_bytes : (t : List ℕ) (i to : ℕ) → i ≤ length t → number_at t i ≡ Ok to → Number (part_of t i to)
number_bytes t i to l e =
    let s : HasWord t Number i to = rw e at ((number_exact t).told i l) in
    rw (stands_part s.stands l) s.is

-- ---- strings ----

pub string_quoted : (t : List ℕ) (i e : ℕ) → byte_at t i ≡ 34 → string_end t (i + 1) ≡ Ok e → Quoted t (i + 1) (e - 1)
string_quoted t i e q h =
    let c = ended_spells t (i + 1) e h in
    let l = c.after in
    let place : i + 1 - 1 ≡ i = omega arith in
    record {
      first = omega arith;
      ordered = omega arith;
      inside = omega (arith, c.within_text);
      opens = rw place q;
      closes = c.quote;
      codes = c.codes;
      spells = c.spelled;
    }

-- ---- tokens ----

-- a token of a kind, whose first byte begins that kind, ends after it and inside the text
pub token_ends : (t : List ℕ) (kind i to : ℕ) → 0 < kind → kind_by (byte_at t i) ≡ kind → token_at t kind i ≡ Ok to → Span t (i + 1) to
token_ends t kind i to s k e = let l = kind_inside t i kind s k in token_span t kind i to (omega arith) e

module _ (t : List ℕ) (kind i to : ℕ) (s : ScalarKind kind) (k : kind_by (byte_at t i) ≡ kind) (e : token_at t kind i ≡ Ok to) where
  start_inside : i ≤ length t
  start_inside = let l = kind_inside t i kind s.least k in omega arith

  inside_text : to ≤ length t
  inside_text = (token_ends t kind i to s.least k e).inside

  -- the kind with its number
  of_kind : (c : ℕ) → c ≡ kind → (token_at t c i ≡ Ok to → TokenIn t c i to) → TokenIn t kind i to
  of_kind c y f = subst (λ (n : ℕ). TokenIn t n i to) y (f (rw (← y) at e))

  number_in : 4 ≡ kind → TokenIn t kind i to
  unfolding token_at
  number_in y = of_kind 4 y (λ w. number (number_bytes t i to start_inside w))

  pub token_in : TokenIn t kind i to
  unfolding token_at
  token_in =
      by_kind (byte_at t i) kind k
      (λ x y. of_kind 1 y (λ w. null (word_bytes t (bytes "null") i to inside_text w).is))
      (λ x y. of_kind 2 y (λ w. falsity (word_bytes t (bytes "false") i to inside_text w).is))
      (λ x y. of_kind 3 y (λ w. truth (word_bytes t (bytes "true") i to inside_text w).is))
      (λ x y. number_in y)
      (λ x y. of_kind 5 y (λ w. string (string_quoted t i to x w)))
      (λ x y. absurd (omega (arith, s.most)))
      (λ x y. absurd (omega (arith, s.most)))
      (λ x y. number_in y)
      (λ y. absurd (omega (arith, s.least)))
