-- Fields:
--     field_cut       a field with anything behind it is cut off whole
--     one_field       so a field tells its tag, its content and what follows it
--     cut-whole       and of bytes, what is cut off is a field
-- Assumes nothing.
use mathlib.Core.Path.{◌≡◌, sym, ap, ◌∙◌}
use mathlib.Core.List.{List, [], ◌∷◌, ◌++◌}
use Prim.Native.Nat.{ℕ, zero, suc, ◌+◌, ◌*◌, ◌/◌, ◌%◌, ◌≤◌}
use native.Mathlib.Omega.{arith}
use lib.ListN.{length, take, drop, length-append, take-append-drop}
use lib.Seq.{take-append_seam, drop-append_seam, length-take-le}
use borrow.Author.Tests.{le-leb}
use Rattle.laws.proofs.Bounds.{AllBelow}
use Rattle.laws.proofs.Branches.{if_most}
use Rattle.packing.specs.Packed.{field_of}
use Rattle.packing.specs.Fields.{Cut, torn, field, cut}

-- ---- a field is cut off

pub field_cut : (tag : ℕ) (content rest : List ℕ) → cut (field_of tag content ++ rest) ≡ field tag content rest
unfolding cut
field_cut tag content rest =
    let n : length content / 256 * 256 + length content % 256 ≡ length content = omega arith in
    let l : length content ≤ length (content ++ rest) = omega (arith, length-append content rest) in
    rw (n, le-leb (length content) (length (content ++ rest)) l, take-append_seam content rest, drop-append_seam content rest)

-- two runs of bytes that begin with a field and are equal
pub record OneField (a b : ℕ) (c e r s : List ℕ) : Type 0 where
  pub tags : a ≡ b
  pub contents : c ≡ e
  pub rests : r ≡ s

pub one_field : (a b : ℕ) (c e r s : List ℕ) → field_of a c ++ r ≡ field_of b e ++ s → OneField a b c e r s
one_field a b c e r s h =
    let k : field a c r ≡ field b e s = sym (field_cut a c r) ∙ ap cut h ∙ field_cut b e s in
    record { tags = cc; contents = cc; rests = cc }

-- ---- what is cut off is a field

pub below_take : (n : ℕ) (k : ℕ) (xs : List ℕ) → AllBelow n xs → AllBelow n (take k xs)
below_take n zero xs h = tt
below_take n (suc k) [] h = tt
below_take n (suc k) (x ∷ xs) h = (h.0, below_take n k xs h.1)

pub below_drop : (n : ℕ) (k : ℕ) (xs : List ℕ) → AllBelow n xs → AllBelow n (drop k xs)
below_drop n zero xs h = h
below_drop n (suc k) [] h = tt
below_drop n (suc k) (x ∷ xs) h = below_drop n k xs h.1

-- the bytes p are a field and what follows it
pub record Whole (p : List ℕ) (tag : ℕ) (content rest : List ℕ) : Type 0 where
  pub is : p ≡ field_of tag content ++ rest
  pub narrow : length content ≤ 65535
  pub small : AllBelow 256 content
  pub later : AllBelow 256 rest

abbrev pub Cuts : List ℕ → Cut → Type 0
Cuts p torn = Prim.Unit {0}
Cuts p (field tag content rest) = Whole p tag content rest

pub cut_whole : (p : List ℕ) → AllBelow 256 p → Cuts p (cut p)
unfolding cut
cut_whole [] h = tt
cut_whole (tag ∷ []) h = tt
cut_whole (tag ∷ high ∷ []) h = tt
cut_whole (tag ∷ high ∷ low ∷ more) h =
    if_most (Cuts (tag ∷ high ∷ low ∷ more)) (high * 256 + low) (length more) (λ k. whole k) (λ k. tt)
  where
    whole : high * 256 + low ≤ length more → Whole (tag ∷ high ∷ low ∷ more) tag (take (high * 256 + low) more) (drop (high * 256 + low) more)
    whole k =
        let l : length (take (high * 256 + low) more) ≡ high * 256 + low = length-take-le (high * 256 + low) more k in
        let x : (high * 256 + low) / 256 ≡ high = omega arith in
        let y : (high * 256 + low) % 256 ≡ low = omega arith in
        record {
          is = rw (l, x, y, take-append-drop (high * 256 + low) more);
          narrow = omega arith;
          small = below_take 256 (high * 256 + low) more h.1.1.1;
          later = below_drop 256 (high * 256 + low) more h.1.1.1;
        }
