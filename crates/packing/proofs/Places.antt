-- A field at a place (specs/Places.antt) is the field that is cut off there: `cut_at_lem`. Assumes nothing.
use mathlib.Core.Path.{◌≡◌, refl, sym, ap, ◌∙◌}
use mathlib.Core.List.{List, [], ◌∷◌, ◌++◌, append_assoc, append_cancel_right}
use Prim.Native.Nat.{ℕ, ◌+◌, ◌*◌, ◌≤◌, ◌<◌}
use native.Mathlib.Omega.{arith}
use lib.ListN.{length, take, drop}
use lib.Seq.{take_at, drop_at}
use borrow.Author.Tests.{le-leb, lt-leb, le-ltb, lt-ltb}
use Rattle.laws.specs.Lists.{part_of}
use Rattle.laws.proofs.Splits.{there_part, length_part}
use Rattle.laws.proofs.Parts.{part_more}
use Rattle.text.specs.Text.{byte_at}
use Rattle.text.proofs.Grammar.Stands.{by_order}
use Rattle.packing.specs.Fields.{torn, field, cut}
use Rattle.packing.specs.Places.{length_at, cut_at}

-- a part is two parts
pub part_split : (p : List ℕ) (a m e : ℕ) → a ≤ m → m ≤ e → e ≤ length p → part_of p a e ≡ part_of p a m ++ part_of p m e
part_split p a m e h k l =
    append_cancel_right (part_of p a e) (part_of p a m ++ part_of p m e) (drop e p)
    (sym (there_part p a e (omega arith) l) ∙ there_part p a m h (omega arith) ∙ ap (λ (r : List ℕ). part_of p a m ++ r) (there_part p m e k l)
    ∙ sym (append_assoc (part_of p a m) (part_of p m e) (drop e p)))

module _ (p : List ℕ) (at end : ℕ) (l : end ≤ length p) where
  -- the first n bytes of a part, and the others
  module _ (n : ℕ) (h : at + n ≤ end) where
    take_part : take n (part_of p at end) ≡ part_of p at (at + n)
    take_part =
        ap (take n) (part_split p at (at + n) end (omega arith) h l)
        ∙ take_at (part_of p at (at + n)) (part_of p (at + n) end) n (length_part p at (at + n) (omega arith) (omega arith) ∙ omega arith)

    drop_part : drop n (part_of p at end) ≡ part_of p (at + n) end
    drop_part =
        ap (drop n) (part_split p at (at + n) end (omega arith) h l)
        ∙ drop_at (part_of p at (at + n)) (part_of p (at + n) end) n (length_part p at (at + n) (omega arith) (omega arith) ∙ omega arith)

-- what is cut off, by the first three bytes
cut_three : (tag high low : ℕ) (more : List ℕ) → high * 256 + low ≤ length more
    → cut (tag ∷ high ∷ low ∷ more) ≡ field tag (take (high * 256 + low) more) (drop (high * 256 + low) more)
unfolding cut
cut_three tag high low more h = rw (le-leb (high * 256 + low) (length more) h)

cut_long : (tag high low : ℕ) (more : List ℕ) → length more < high * 256 + low → cut (tag ∷ high ∷ low ∷ more) ≡ torn
unfolding cut
cut_long tag high low more h = rw (lt-leb (high * 256 + low) (length more) h)

-- fewer than three bytes
cut_few : (w : List ℕ) → length w < 3 → cut w ≡ torn
unfolding cut
cut_few [] h = refl
cut_few (a ∷ []) h = refl
cut_few (a ∷ b ∷ []) h = refl
cut_few (a ∷ b ∷ c ∷ w) h = absurd (omega arith)

module _ (p : List ℕ) (at end : ℕ) (h : at ≤ end) (l : end ≤ length p) where
  three : at + 3 ≤ end → part_of p at end ≡ byte_at p at ∷ byte_at p (at + 1) ∷ byte_at p (at + 2) ∷ part_of p (at + 3) end
  three k =
      let two : at + 1 + 1 ≡ at + 2 = omega arith in
      let last : at + 2 + 1 ≡ at + 3 = omega arith in
      let second : part_of p (at + 1) end ≡ byte_at p (at + 1) ∷ part_of p (at + 2) end = rw two at (part_more p (at + 1) end (omega arith) l) in
      let third : part_of p (at + 2) end ≡ byte_at p (at + 2) ∷ part_of p (at + 3) end = rw last at (part_more p (at + 2) end (omega arith) l) in
      part_more p at end (omega arith) l ∙ rw (second, third)

  pub cut_at_lem : cut (part_of p at end) ≡ cut_at p at end
  unfolding cut_at
  cut_at_lem =
      by_order end (at + 3)
      (λ k. rw (lt-ltb end (at + 3) k) (cut_few (part_of p at end) (omega (arith, length_part p at end h l))))
      (λ k. let n = length_part p (at + 3) end k l in
      by_order end (at + 3 + length_at p at)
      (λ g. rw (le-ltb end (at + 3) k, lt-ltb end (at + 3 + length_at p at) g)
      (ap cut (three k) ∙ cut_long (byte_at p at) (byte_at p (at + 1)) (byte_at p (at + 2)) (part_of p (at + 3) end) (omega arith)))
      (λ g. rw (le-ltb end (at + 3) k, le-ltb end (at + 3 + length_at p at) g)
      (ap cut (three k) ∙ cut_three (byte_at p at) (byte_at p (at + 1)) (byte_at p (at + 2)) (part_of p (at + 3) end) (omega arith)
      ∙ rw (take_part p (at + 3) end l (length_at p at) g, drop_part p (at + 3) end l (length_at p at) g))))
