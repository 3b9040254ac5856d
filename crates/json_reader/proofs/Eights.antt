-- Bytes of two texts that stand alike and are in a class:
--     alike-none, alike-more     one more of them
--     alike-eight                the first j of n bytes that were read as numbers
--     one-run, one_told          two runs that go as far as they can are as long; two tests that tell the same say the same
--     common-written, common-plain   what two names have in common by bytes that mean nothing but themselves
--     alike-written, alike-raw   and how far two names, and two strings, have it
-- Assumes nothing.
use Prim.Native.Nat.{ℕ, zero, suc, ◌+◌, ◌/◌, ◌%◌, ◌≤◌, ◌<◌}
use mathlib.Core.Path.{◌≡◌, refl, sym, subst, ◌∙◌}
use mathlib.Core.Bool.{Bool, true, false}
use mathlib.Core.List.{List}
use native.Mathlib.Decide.{dec_le}
use native.Mathlib.Nat.{add-zero}
use native.Mathlib.Numerals.{add-one}
use native.Mathlib.Omega.{arith}
use lib.ListN.{length, get_or}
use borrow.Author.Count.{below_more}
use Rattle.laws.proofs.Places.{any_default}
use Rattle.text.specs.Text.{byte_at}
use Rattle.json_reader.specs.Plain.{packed_at, Plain, Told, AlikeBytes, AlikeTo, AlikeRun}
use Rattle.json_reader.specs.Quoted.{Written, CommonFrom, AlikeFrom}
use Rattle.json_reader.specs.Names.{Raw, Common, Alike}
use Rattle.json_reader.proofs.Alike.{by_number, common_start, common_more}
use Rattle.json_reader.proofs.Comparing.{common_none, common_next, ended_quote, ended_over}

module _ (P : ℕ → Type 0) (s : List ℕ) (a : ℕ) (t : List ℕ) (b : ℕ) where
  pub alike_none : AlikeTo P s a t b 0
  alike_none = record { alike = λ i h. absurd (omega arith); first = omega arith; second = omega arith }

  pub alike_more : (k : ℕ) → AlikeTo P s a t b k → a + k < length s → b + k < length t → byte_at s (a + k) ≡ byte_at t (b + k) → P (byte_at s (a + k))
      → AlikeTo P s a t b (k + 1)
  alike_more k r h l e p =
      record {
        alike = below_more (λ (i : ℕ). (byte_at s (a + i) ≡ byte_at t (b + i)) × P (byte_at s (a + i))) k r.alike (e, p);
        first = omega arith;
        second = omega arith;
      }

  no_longer : {k l : ℕ} → AlikeRun P s a t b k → AlikeRun P s a t b l → l ≤ k
  no_longer {k} {l} r q = elim (dec_le l k) [
    | yes h ↦ h
    | no h ↦ let more = q.run.alike k (omega arith) in absurd (r.ends more.0 more.1)
  ]

  pub one_run : {k l : ℕ} → AlikeRun P s a t b k → AlikeRun P s a t b l → k ≡ l
  one_run r q = omega (arith, no_longer r q, no_longer q r)

pub one_told : {A : Type 0} (r s : Bool) → Told A r → Told A s → r ≡ s
one_told true true x y = refl
one_told true false x y = absurd (y.no refl (x.yes refl))
one_told false true x y = absurd (x.no refl (y.yes refl))
one_told false false x y = refl

-- ---- bytes that were read as numbers

module _ (t : List ℕ) (bytes : (i : ℕ) → get_or t i 0 < 256) where
  -- the lowest byte of a packed number, and the number above it
  low : (n at : ℕ) → at < length t → packed_at t (suc n) at % 256 ≡ byte_at t at
  unfolding packed_at
  low n at h = let small = bytes at in omega (arith, any_default 0 256 t at h)

  high : (n at : ℕ) → packed_at t (suc n) at / 256 ≡ packed_at t n (at + 1)
  unfolding packed_at
  high n at = let small = bytes at in omega arith

module _ (P : ℕ → Type 0) (s t : List ℕ) (s-bytes : (i : ℕ) → get_or s i 0 < 256) (t-bytes : (i : ℕ) → get_or t i 0 < 256) (a b : ℕ) where
  pub alike_eight : (n j k : ℕ) → AlikeTo P s a t b k → j ≤ n → a + k + n ≤ length s → b + k + n ≤ length t
      → AlikeBytes P j (packed_at s n (a + k)) (packed_at t n (b + k)) → AlikeTo P s a t b (k + j)
  alike_eight n zero k r h l m p = rw (add-zero k) r
  alike_eight zero (suc j) k r h l m p = absurd (omega arith)
  alike_eight (suc n) (suc j) k r h l m p =
      let e = low s s-bytes n (a + k) (omega arith) in
      let f = low t t-bytes n (b + k) (omega arith) in
      let x : a + k + 1 ≡ a + (k + 1) = omega arith in
      let y : b + k + 1 ≡ b + (k + 1) = omega arith in
      let next : k + suc j ≡ k + 1 + j = omega arith in
      rw next
      (alike_eight n j (k + 1) (alike_more P s a t b k r (omega arith) (omega arith) (sym e ∙ p.1.0 ∙ f) (subst P e p.0))
      (omega arith) (omega arith) (omega arith) (rw (high s s-bytes n (a + k), high t t-bytes n (b + k), x, y) at p.1.1))

-- ---- names

pub common_written : (t : List ℕ) (a b k : ℕ) → ((i : ℕ) → i < k → (byte_at t (a + i) ≡ byte_at t (b + i)) × Written (byte_at t (a + i))) → CommonFrom t a b k
common_written t a b zero alike = common_none t a b
common_written t a b (suc k) alike =
    let here = alike k (omega arith) in
    rw (← add-one k)
    (common_next t a b k (common_written t a b k (λ i h. alike i (omega arith))) here.1.no_quote here.1.raw.no_escape here.1.raw.byte here.0)

pub common_plain : (t : List ℕ) (a b k : ℕ) → ((i : ℕ) → i < k → (byte_at t (a + i) ≡ byte_at t (b + i)) × Plain (byte_at t (a + i))) → CommonFrom t a b k
common_plain t a b k alike =
    common_written t a b k (λ i h. let here = alike i h in (
      here.0,
      record {
        raw = record { byte = omega (arith, here.1.ascii); no_escape = here.1.no_slash };
        no_quote = here.1.no_quote;
      },
    ))

-- two names have no more in common than such bytes, unless a backslash stands there or both are over
pub alike_written : (t : List ℕ) (a b k : ℕ) → AlikeRun Written t a t b k → byte_at t (a + k) ≤ 256 → AlikeFrom t a b k
alike_written t a b k r most =
    record {
      common = common_written t a b k r.run.alike;
      stops = λ e n. by_number (byte_at t (a + k)) 34 (ended_quote (byte_at t (a + k)))
          (λ q. by_number (byte_at t (a + k)) 256 (ended_over (byte_at t (a + k)))
          (λ o. absurd (r.ends e (record { raw = record { byte = omega arith; no_escape = n }; no_quote = q }))));
    }

-- two strings have no more in common than bytes that mean nothing but themselves, unless a backslash stands there or both are over
pub common_raw : (a b : List ℕ) (k : ℕ) → ((i : ℕ) → i < k → (byte_at a (0 + i) ≡ byte_at b (0 + i)) × Raw (byte_at a (0 + i))) → Common a b k
common_raw a b zero alike = common_start a b
common_raw a b (suc k) alike =
    let here = alike k (omega arith) in
    let z : 0 + k ≡ k = omega arith in
    rw (← add-one k) (common_more a b k (common_raw a b k (λ i h. alike i (omega arith))) (rw z at here.1.no_escape) (rw z at here.1.byte) (rw z at here.0))

pub alike_raw : (a b : List ℕ) (k : ℕ) → AlikeRun Raw a 0 b 0 k → byte_at a k ≤ 256 → Alike a b k
alike_raw a b k r most =
    let z : 0 + k ≡ k = omega arith in
    record {
      common = common_raw a b k r.run.alike;
      stops = λ e n. by_number (byte_at a k) 256 (λ o. o) (λ o. absurd (rw z at r.ends e (record { byte = omega arith; no_escape = n })));
    }
