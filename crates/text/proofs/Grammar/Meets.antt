-- What is expected of an answer where the text is like a derived part as far as a place q: `Meets`. The definition reads the part with its tree; or it
-- names what is wrong with a value of that tree; or q is still in the part, and it answers of q or a later place. Here: how answers are put together. Assumes nothing.
use Rattle.std.specs.Prelude.{Result, Ok, Err}
use Rattle.text.specs.declared.Fault.{Fault}
use Rattle.text.specs.declared.Fault.TheVariants.{Malformed, Forbidden}
use mathlib.Core.Path.{◌≡◌, refl}
use mathlib.Core.List.{List, [], ◌∷◌, ◌++◌, append_assoc}
use mathlib.Core.Bool.{Bool, true, false}
use mathlib.Core.Logic.{◌⊎◌}
use Prim.Native.Nat.{ℕ, ◌+◌, ◌≤◌, ◌<◌}
use native.Mathlib.Omega.{arith}
use lib.ListN.{length, length-append}
use lib.Dec.{eqb}
use Rattle.laws.proofs.Branches.{if_true}
use Rattle.text.specs.Limits.{Limits}
use Rattle.text.specs.Text.{byte_at}
use Rattle.text.specs.Tokens.{is_space, is_digit, word_at, then_at, digits_at, minus_end, int_at, frac_at, sign_end, exp_at, number_at, kind_by}
use Rattle.text.specs.Tree.{Bracket, square, curly, Forest, none, node, size, join}
use Rattle.text.specs.Reader.{Read, good, bad, close_of}
use Rattle.text.specs.Abnf.{Byte, Star}
use Rattle.text.specs.Grammar.{Blank, Ws, quoted, Simple, nothing, falsity, truth, numeral, string, simple_kind, IsSimple, Phrase, value, Is, simple, empty, full, element, member, one, comma, tree_of, closing}
use Rattle.text.specs.Seats.{Head, leaf_head, node_head, Seat, under, behind, Sits}
use Rattle.text.specs.declared.Refusal.{Refusal}
use Rattle.text.specs.declared.Refusal.TheVariants.{TooLong, Grammar, Character, Repeated, Deep, Many, Small}
use Rattle.text.proofs.Grammar.Words.{Behind, blank, blank_tells, simple_of, simple_first}
use Rattle.text.proofs.Grammar.Trees.{join_assoc, size_join, in_right}
use Rattle.text.proofs.Grammar.Wrong.{Wrong}
use Rattle.text.proofs.Grammar.Sound.{place_of, glued}
use Rattle.text.proofs.Grammar.Within.{close_place}

-- the refusal of a number at a place
pub data Numbered : (number place : ℕ) → Refusal → Type 0 where
  third : {x : ℕ} → Numbered 3 x (Character x)
  fourth : {x : ℕ} → Numbered 4 x (Repeated x)
  fifth : {x : ℕ} → Numbered 5 x (Deep x)
  sixth : {x : ℕ} → Numbered 6 x (Many x)

abbrev pub number_of : Refusal → ℕ
number_of TooLong = 1
number_of (Grammar p) = 2
number_of (Character p) = 3
number_of (Repeated p) = 4
number_of (Deep p) = 5
number_of (Many p) = 6
number_of (Small n) = 7

pub record Has (r : Refusal) (m x : ℕ) : Type 0 where
  pub number : number_of r ≡ m
  pub place : place_of (bad r) ≡ x

pub numbered_has : {m x : ℕ} {r : Refusal} → Numbered m x r → Has r m x
numbered_has third = record { number = refl; place = refl }
numbered_has fourth = record { number = refl; place = refl }
numbered_has fifth = record { number = refl; place = refl }
numbered_has sixth = record { number = refl; place = refl }

module _ (L : Limits) (t : List ℕ) (q : ℕ) where
  -- an answer, where the values f up to the place `to` are expected, of which T are new, the first at c
  pub data Meets (c : Seat) (f T : Forest) (to : ℕ) : Read → Type 0 where
    past : {R : Read} → q ≤ to → q ≤ place_of R → Meets c f T to R
    same : c.after + size T ≤ L.values → Meets c f T to (good f to)
    wrong : {d : Seat} {h : Head} {m x : ℕ} {r : Refusal} → Sits c T d h → Wrong L t d h m x → Numbered m x r → (q ≤ to) ⊎ (x < to) → Meets c f T to (bad r)

  -- all of them are new
  abbrev pub MeetsNew : Seat → Forest → ℕ → Read → Type 0
  MeetsNew c f to R = Meets c f f to R

  -- what an answer of a place before q says
  pub data NearAnswer (c : Seat) (f : Forest) (to : ℕ) : Read → Type 0 where
    read : NearAnswer c f to (good f to)
    broken : {d : Seat} {h : Head} {m x : ℕ} {r : Refusal} → Sits c f d h → Wrong L t d h m x → Numbered m x r → NearAnswer c f to (bad r)

  pub near : {c : Seat} {f : Forest} {to : ℕ} {R : Read} → MeetsNew c f to R → place_of R < q → NearAnswer c f to R
  near (past k h) l = absurd (omega arith)
  near (same h) l = read
  near (wrong i w n o) l = broken i w n

  -- a container around what is inside it
  pub meets_close : {c : Seat} {f : Forest} {to : ℕ} {R : Read} (b : Bracket) (ns ne at : ℕ) → MeetsNew (under c) f to R → MeetsNew c (node b ns ne at to f none) to (close_of b ns ne at R)
  unfolding close_of size
  meets_close b ns ne at (past {R} k h) = past {R = close_of b ns ne at R} k (rw (close_place b ns ne at R) h)
  meets_close b ns ne at (same h) = same (omega arith)
  meets_close b ns ne at (wrong i w n o) = wrong (Sits.into i) w n o

  -- values after other values
  pub meets_join : {c : Seat} {x : ℕ} (B T S : Forest) {R : Read} → c.after + size T ≤ L.values
      → Meets (behind c T) (join (join B T) S) S x R → Meets c (join B (join T S)) (join T S) x R
  meets_join B T S k (past l h) = past l h
  meets_join B T S k (same h) = rw (join_assoc B T S) (same (omega (arith, size_join T S)))
  meets_join B T S k (wrong i w n o) = wrong (in_right T i) w n o

-- the first value of a part that is a value, and its name
pub record Firstly (c : Seat) (f : Forest) (ns : ℕ) : Type 0 where
  pub head : Head
  pub there : Sits c f c head
  pub name : head.ns ≡ ns

pub firstly : {w : List ℕ} (c : Seat) (d : Is value w) (ns ne at : ℕ) → Firstly c (tree_of d ns ne at) ns
unfolding tree_of
firstly c (simple {w} k l) ns ne at = record { head = leaf_head (simple_kind k) ns ne at (at + length w); there = Sits.leaf_here; name = refl }
firstly c (empty {s} b p) ns ne at = record { head = node_head b ns ne at (at + length s + 2) (size none); there = Sits.node_here; name = refl }
firstly c (full {s} {w} b p d) ns ne at = record { head = node_head b ns ne at (at + length s + length w + 2) (size (tree_of d 0 0 (at + 1 + length s))); there = Sits.node_here; name = refl }

-- ---- first bytes ----

pub dark_closing : (b : Bracket) → is_space (closing b) ≡ false
dark_closing square = refl
dark_closing curly = refl

pub high_closing : (b : Bracket) → 93 ≤ closing b
high_closing square = omega arith
high_closing curly = omega arith

-- a byte that begins a value is neither white space nor a closing byte
pub record BeginsValue (b : ℕ) : Type 0 where
  pub dark : is_space b ≡ false
  pub apart_from : (k : Bracket) → b ≡ closing k → ⊥

leads : (b : ℕ) → 0 < kind_by b → BeginsValue b
unfolding kind_by
leads b h = record { dark = go (is_space b) refl; apart_from = λ k e. apart k (rw e at h) }
  where
    white : {b : ℕ} → Blank b → 0 < kind_by b → ⊥
    white Blank.space k = omega arith
    white Blank.tab k = omega arith
    white Blank.line_feed k = omega arith
    white Blank.return k = omega arith

    go : (c : Bool) → is_space b ≡ c → c ≡ false
    go true e = absurd (white (blank_tells.sure b e) h)
    go false e = refl

    apart : (k : Bracket) → 0 < kind_by (closing k) → ⊥
    apart square k = omega arith
    apart curly k = omega arith

some_kind : (k : Simple) → 0 < simple_kind k
some_kind nothing = omega arith
some_kind falsity = omega arith
some_kind truth = omega arith
some_kind numeral = omega arith
some_kind string = omega arith

-- a value that holds no others has some bytes
pub simple_long : (k : Simple) (w : List ℕ) → IsSimple k w → 0 < length w
unfolding kind_by
simple_long k [] d = let e : 0 ≡ simple_kind k = simple_first k [] [] d in absurd (omega (arith, some_kind k))
simple_long k (x ∷ w) d = omega arith

first_kind : {a : Phrase} {w : List ℕ} → Is a w → (r : List ℕ) → 0 < kind_by (byte_at (w ++ r) 0)
unfolding kind_by
first_kind (simple {w} k l) r = rw (simple_first k w r l) (some_kind k)
first_kind (empty square p) r = omega arith
first_kind (empty curly p) r = omega arith
first_kind (full square p d) r = omega arith
first_kind (full curly p d) r = omega arith
first_kind (element d) r = first_kind d r
first_kind (member (quoted g) p o d) r = omega arith
first_kind (one {v} {s} d p) r = rw (append_assoc v s r) (first_kind d (s ++ r))
first_kind (comma {v} {s} {r = x} {w} d p o e) r = rw (append_assoc v (s ++ 44 ∷ (x ++ w)) r) (first_kind d ((s ++ 44 ∷ (x ++ w)) ++ r))

pub first : {a : Phrase} {w : List ℕ} → Is a w → (r : List ℕ) → BeginsValue (byte_at (w ++ r) 0)
first {w} d r = leads (byte_at (w ++ r) 0) (first_kind d r)

-- white space may stand behind a value, and so may what may stand behind that
pub space_behind : {s : List ℕ} (l : List ℕ) → Ws s → Behind (byte_at l 0) → Behind (byte_at (s ++ l) 0)
space_behind l Star.none e = e
space_behind l (Star.more (Byte.byte h) p) e = blank h

pub length_glued : (c : ℕ) (v s r w : List ℕ) → length (glued c v s r w) ≡ length v + length s + 1 + length r + length w
length_glued c v s r w = omega (arith, length-append v (s ++ c ∷ (r ++ w)), length-append s (c ∷ (r ++ w)), length-append r w)

-- ---- 3 is a string's alone ----

data NoThree : Result ℕ (Fault ℕ) → Type 0 where
  ends : {to : ℕ} → NoThree (Ok to)
  second : {p : ℕ} → NoThree (Err (Malformed p))

not_three : {A : Type 0} {k : (Result ℕ (Fault ℕ))} {x : ℕ} → NoThree k → k ≡ Err (Forbidden x) → A
not_three ends e = let z : ◌≡◌ {A = ℕ} 0 1 = cc in absurd (omega arith)
not_three second e = let z : ◌≡◌ {A = ℕ} 0 1 = cc in absurd (omega arith)

then_three : {f : ℕ → (Result ℕ (Fault ℕ))} {k : (Result ℕ (Fault ℕ))} → ((to : ℕ) → NoThree (f to)) → NoThree k → NoThree (then_at f k)
then_three p (ends {to}) = p to
then_three p second = second

module _ (t : List ℕ) where
  word_three : (v : List ℕ) (at : ℕ) → NoThree (word_at t v at)
  unfolding word_at
  word_three [] at = ends
  word_three (x ∷ v) at = if_true NoThree (eqb (byte_at t at) x) (λ e. word_three v (at + 1)) (λ e. second)

  digits_three : (at : ℕ) → NoThree (digits_at t at)
  unfolding digits_at
  digits_three at = if_true NoThree (is_digit (byte_at t at)) (λ e. ends) (λ e. second)

  int_three : (at : ℕ) → NoThree (int_at t at)
  unfolding int_at
  int_three at = if_true NoThree (eqb (byte_at t at) 48) (λ e. ends) (λ e. digits_three at)

  frac_three : (at : ℕ) → NoThree (frac_at t at)
  unfolding frac_at
  frac_three at = if_true NoThree (eqb (byte_at t at) 46) (λ e. digits_three (at + 1)) (λ e. ends)

  exp_three : (at : ℕ) → NoThree (exp_at t at)
  unfolding exp_at
  exp_three at =
      let d = digits_three (sign_end t (at + 1)) in
      if_true NoThree (eqb (byte_at t at) 101) (λ e. d) (λ e. if_true NoThree (eqb (byte_at t at) 69) (λ f. d) (λ f. ends))

  number_three : (at : ℕ) → NoThree (number_at t at)
  unfolding number_at
  number_three at = then_three exp_three (then_three frac_three (int_three (minus_end t at)))

  pub three_text : (k : Simple) (at x : ℕ) → simple_of t k at ≡ Err (Forbidden x) → simple_kind k ≡ 5
  three_text nothing at x e = not_three (word_three _ at) e
  three_text falsity at x e = not_three (word_three _ at) e
  three_text truth at x e = not_three (word_three _ at) e
  three_text numeral at x e = not_three (number_three at) e
  three_text string at x e = refl
