-- The tests on Ids and unsigned integers decide what specs/SimpleValues.antt says:
--     digit-test    a byte from 0 to 9
--     id-test       Id
--     count-test    UnsignedInt with its bounds
-- Assumes nothing.
use Prim.Native.Nat.{ℕ, ◌+◌, ◌-◌, ◌*◌, ◌<◌}
use mathlib.Core.Path.{◌≡◌, refl, sym, subst, ◌∙◌}
use mathlib.Core.List.{List, [], ◌∷◌, ◌++◌, append_assoc, append-nil}
use mathlib.Core.Logic.{◌⊎◌, inl, inr}
use native.Mathlib.Omega.{arith}
use lib.ListN.{length}
use Rattle.laws.specs.Each.{Each, none, more}
use Rattle.laws.proofs.Tests.{each_test}
use Rattle.laws.proofs.Decides.{Decides, swap, equal, below, upto, lets, bars, grants}
use Rattle.text.specs.Tokens.{is_digit}
use Rattle.contact.specs.Values.{id_byte, is_id, value_from, is_count}
use Rattle.contact.specs.SimpleValues.{DigitByte, IdByte, capital, small, digit, hyphen, underscore, Id, DigitValue, Denotes, UnsignedInt}
use Rattle.contact.specs.SimpleValues as L

-- ---- bytes

pub digit_test : (b : ℕ) → Decides (DigitByte b) (is_digit b)
digit_test b =
    swap (λ h. record { from = omega arith; up_to = omega arith }) (λ h. ((λ k. omega arith), omega arith)) (bars (below b 48) (below b 58))

-- ---- Ids

-- the ways that the test goes, in its order
abbrev IdWays : ℕ → Type 0
IdWays b =
    (b ≡ 45) ⊎ ((b ≡ 95) ⊎ (DigitByte b ⊎ (¬ (b < 65) × ((b < 91) ⊎ (¬ (b < 97) × (b < 123))))))

id_byte_by : (b : ℕ) → IdWays b → IdByte b
id_byte_by b (inl e) = subst IdByte (sym e) hyphen
id_byte_by b (inr (inl e)) = subst IdByte (sym e) underscore
id_byte_by b (inr (inr (inl d))) = digit d
id_byte_by b (inr (inr (inr (h, inl k)))) = capital {b = b} (record { from = omega arith; up_to = omega arith })
id_byte_by b (inr (inr (inr (h, inr k)))) = small {b = b} (record { from = omega arith; up_to = omega arith })

by_id_byte : {b : ℕ} → IdByte b → IdWays b
by_id_byte (capital r) = inr (inr (inr ((λ k. omega arith), inl (omega arith))))
by_id_byte (small r) = inr (inr (inr ((λ k. omega arith), inr ((λ k. omega arith), omega arith))))
by_id_byte (digit r) = inr (inr (inl r))
by_id_byte hyphen = inl refl
by_id_byte underscore = inr (inl refl)

id_byte_test : (b : ℕ) → Decides (IdByte b) (id_byte b)
unfolding id_byte
id_byte_test b =
    swap (id_byte_by b) by_id_byte
    (grants (equal b 45) (grants (equal b 95) (grants (digit_test b) (bars (below b 65) (grants (below b 91) (bars (below b 97) (below b 123)))))))

pub id_test : (n : List ℕ) → Decides (Id n) (is_id n)
unfolding is_id
id_test n =
    swap
    (λ h. record { some = omega arith; few = omega arith; each = h.1.1 })
    (λ i. ((λ k. omega arith), ((λ k. omega arith), i.each)))
    (bars (below (length n) 1) (bars (below 255 (length n)) (each_test id_byte id_byte_test n)))

-- ---- unsigned integers

pub digit_of_lem : (b : ℕ) → DigitByte b → DigitValue b (b - 48)
digit_of_lem b r =
    let e : 48 + (b - 48) ≡ b = omega arith in
    subst (λ (c : ℕ). DigitValue c (b - 48)) e (L.digit (omega arith))

-- more digits after those that denote a number
denotes_on : (ds bs : List ℕ) (v : ℕ) → Denotes ds v → Each DigitByte bs → Denotes (ds ++ bs) (value_from v bs)
unfolding value_from
denotes_on ds [] v h none = rw append-nil h
denotes_on ds (b ∷ bs) v h (more r rs) =
    let one : DigitValue b (b - 48) = digit_of_lem b r in
    rw (← append_assoc ds (b ∷ []) bs) (denotes_on (ds ++ b ∷ []) bs (10 * v + (b - 48)) (L.more h one) rs)

value_on : (u b : ℕ) (ds : List ℕ) → value_from u (ds ++ b ∷ []) ≡ 10 * value_from u ds + (b - 48)
unfolding value_from
value_on u b [] = refl
value_on u b (d ∷ ds) = value_on (10 * u + (d - 48)) b ds

each_on : {bs : List ℕ} {b : ℕ} → Each DigitByte bs → DigitByte b → Each DigitByte (bs ++ b ∷ [])
each_on none r = more r none
each_on (more q qs) r = more q (each_on qs r)

pub digit_byte : {b v : ℕ} → DigitValue b v → DigitByte b
digit_byte (L.digit h) = record { from = omega arith; up_to = omega arith }

-- a number's digits, and the number that the test makes of them
denoted : {ds : List ℕ} {v : ℕ} → Denotes ds v → Each DigitByte ds × (value_from 0 ds ≡ v)
unfolding value_from
denoted L.none = (none, refl)
denoted (L.more {ds = ds} {v = v} h (L.digit {v = d} k)) =
    let before = denoted h in
    let value : value_from 0 (ds ++ (48 + d) ∷ []) ≡ 10 * v + d = value_on 0 (48 + d) ds ∙ omega (arith, before.1) in
    (each_on before.0 (digit_byte (L.digit k)), value)

pub count_test : (low high : ℕ) (token : List ℕ) → Decides (UnsignedInt low high token) (is_count low high token)
unfolding is_count
count_test low high token =
    swap
    (λ h. record {
      number = value_from 0 token;
      denoted = denotes_on [] token 0 L.none h.0;
      unsigned = omega arith;
      from = omega arith;
      upto = omega arith;
    })
    (λ c. (
      (denoted c.denoted).0,
      (
        (λ k. omega (arith, (denoted c.denoted).1)),
        ((λ k. omega (arith, (denoted c.denoted).1)), omega (arith, (denoted c.denoted).1)),
      ),
    ))
    (lets (each_test is_digit digit_test token)
    (bars (below 9007199254740991 (value_from 0 token)) (bars (below (value_from 0 token) low) (upto (value_from 0 token) high))))
