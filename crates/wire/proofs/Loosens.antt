-- The measure is whole reading, 1, 4 and 7 aside: a text within the limit that reading doesn't refuse by 4 is measured as it is read (`measured`). Part by part
-- the reader that compares no names answers the same, or the one that does has refused by 4 (`Loosens`). Assumes nothing.
use Rattle.std.specs.Prelude.{Result, Ok, Err}
use Rattle.text.specs.declared.Fault.{Fault}
use Rattle.text.specs.declared.Fault.TheVariants.{Malformed, Forbidden}
use mathlib.Core.Path.{◌≡◌, sym, ◌∙◌}
use mathlib.Core.Bool.{Bool, true, false, cond}
use mathlib.Core.List.{List}
use Prim.Native.Nat.{ℕ, zero, suc, ◌+◌, ◌-◌, ◌≤◌}
use native.Mathlib.Nat.{le_refl}
use lib.ListN.{length}
use lib.Dec.{leb, eqb}
use borrow.Author.Tests.{le-ltb}
use Rattle.text.specs.Limits.{Limits}
use Rattle.text.specs.Text.{byte_at}
use Rattle.text.specs.Strings.{string_end, name_of}
use Rattle.text.specs.Tokens.{skip, kind_by}
use Rattle.text.specs.Tree.{Bracket, square, curly, Forest, none, size, join}
use Rattle.text.specs.Reader.{Read, good, bad, Reader, ItemReader, scalar_at, close_of, container, value_with, after_item, items_from, inside_of, named, colon_at, member_with, member_of, value_at}
use Rattle.text.specs.Whole.{end_of, read_of}
use Rattle.text.specs.declared.Refusal.TheVariants.{Repeated}
use Rattle.wire.specs.Measure.{lenient}

-- the second reader answers the same, or the first refused by 4
data Loosens : Read → Read → Type 0 where
  same : {R : Read} → Loosens R R
  four : {p : ℕ} {R : Read} → Loosens (bad (Repeated p)) R

by_cond : (x : Bool) {a b c d : Read} → Loosens a c → Loosens b d → Loosens (cond x a b) (cond x c d)
by_cond true p q = p
by_cond false p q = q

closed : (b : Bracket) (ns ne at : ℕ) {R S : Read} → Loosens R S → Loosens (close_of b ns ne at R) (close_of b ns ne at S)
unfolding close_of
closed b ns ne at same = same
closed b ns ne at four = four

ends : (t : List ℕ) {R S : Read} → Loosens R S → Loosens (end_of t R) (end_of t S)
unfolding end_of
ends t same = same
ends t four = four

-- readers that loosen
abbrev Both : Reader → Reader → Type 0
Both v w = (ns ne at n : ℕ) → Loosens (v ns ne at n) (w ns ne at n)

abbrev Items : ItemReader → ItemReader → Type 0
Items v w = (done : Forest) (at n : ℕ) → Loosens (v done at n) (w done at n)

module _ (t : List ℕ) where
  after_item_lem : (z : ℕ) (done : Forest) {more less : Forest → ℕ → Read} → ((f : Forest) (to : ℕ) → Loosens (more f to) (less f to)) → {R S : Read} → Loosens R S
      → Loosens (after_item t z done more R) (after_item t z done less S)
  unfolding after_item
  after_item_lem z done h four = four
  after_item_lem z done h (same {R = bad r}) = same
  after_item_lem z done h (same {R = good f to}) =
      let x = skip t to in
      by_cond (eqb (byte_at t x) z) same (by_cond (eqb (byte_at t x) 44) (h f (skip t (x + 1))) same)

  items_from_lem : {v w : ItemReader} → Items v w → (z turns at n : ℕ) (done : Forest) → Loosens (items_from t v z turns at n done) (items_from t w z turns at n done)
  unfolding items_from
  items_from_lem h z zero at n done = same
  items_from_lem h z (suc turns) at n done = after_item_lem z done (λ f to. items_from_lem h z turns to (n + size f) (join done f)) (h done at n)

  inside : {v w : ItemReader} → Items v w → (z at n : ℕ) → Loosens (inside_of t v z at n) (inside_of t w z at n)
  unfolding inside_of
  inside h z at n = let x = skip t at in by_cond (eqb (byte_at t x) z) same (items_from_lem h z (suc (length t)) x n none)

  colon : {v w : Reader} → Both v w → (at end n : ℕ) → Loosens (colon_at t v at end n) (colon_at t w at end n)
  unfolding colon_at
  colon h at end n = let x = skip t end in by_cond (eqb (byte_at t x) 58) (h (at + 1) (end - 1) (skip t (x + 1)) n) same

  module _ (L : Limits) where
    abbrev M : Limits
    M = lenient L t

    member_with_lem : {v w : Reader} → Both v w → (done : Forest) (at n : ℕ) (k : Result ℕ (Fault ℕ)) → Loosens (member_with L t v done at n k) (member_with M t w done at n k)
    unfolding member_with
    member_with_lem h done at n (Err (Malformed p)) = same
    member_with_lem h done at n (Err (Forbidden p)) = same
    member_with_lem {v} {w} h done at n (Ok end) = go L.unique (named t (name_of t (at + 1) (end - 1)) done) (colon h at end n)
      where
        go : (u x : Bool) {a b : Read} → Loosens a b → Loosens (cond u (cond x (bad (Repeated at)) a) a) b
        go true true p = four
        go true false p = p
        go false x p = p

    member_of_lem : {v w : Reader} → Both v w → Items (member_of L t v) (member_of M t w)
    unfolding member_of
    member_of_lem h done at n = by_cond (eqb (byte_at t at) 34) (member_with_lem h done at n (string_end t (at + 1))) same

    boxed : (b : Bracket) {v w : ℕ → ℕ → Read} → ((at n : ℕ) → Loosens (v at n) (w at n)) → Both (container L b v) (container M b w)
    unfolding container
    boxed b h ns ne at n = by_cond (leb L.values n) same (closed b ns ne at (h (at + 1) (n + 1)))

    value_with_lem : {a b o p : Reader} → Both a b → Both o p → Both (value_with L t a o) (value_with M t b p)
    unfolding value_with scalar_at
    value_with_lem f g ns ne at n =
        let kind = kind_by (byte_at t at) in
        by_cond (eqb kind 0) same (by_cond (eqb kind 6) (f ns ne at n) (by_cond (eqb kind 7) (g ns ne at n) same))

    value_at_lem : (depth : ℕ) → Both (value_at L t depth) (value_at M t depth)
    unfolding value_at
    value_at_lem zero = value_with_lem (λ ns ne at n. same) (λ ns ne at n. same)
    value_at_lem (suc depth) =
        let h = value_at_lem depth in
        value_with_lem (boxed square (inside (λ done. h 0 0) 93)) (boxed curly (inside (member_of_lem h) 125))

-- what reading answers within the limit of bytes
pub data Reads (L : Limits) (t : List ℕ) : Type 0 where
  as_measured : read_of L t ≡ read_of (lenient L t) t → Reads L t
  by_four : (p : ℕ) → read_of L t ≡ bad (Repeated p) → Reads L t

pub measured : (L : Limits) (t : List ℕ) → length t ≤ L.bytes → Reads L t
unfolding read_of
measured L t l = go _ _ strict free (ends t (value_at_lem t L L.depth 0 0 (skip t 0) 0))
  where
    strict : read_of L t ≡ end_of t (value_at L t L.depth 0 0 (skip t 0) 0)
    strict = rw (le-ltb L.bytes (length t) l)

    free : read_of (lenient L t) t ≡ end_of t (value_at (lenient L t) t L.depth 0 0 (skip t 0) 0)
    free = rw (le-ltb (length t) (length t) (le_refl (length t)))

    go : (R S : Read) → read_of L t ≡ R → read_of (lenient L t) t ≡ S → Loosens R S → Reads L t
    go R S e f same = as_measured (e ∙ sym f)
    go R S e f (four {p}) = by_four p e
