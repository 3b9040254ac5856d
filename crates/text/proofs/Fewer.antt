-- Reading with fewer values: what a reading that may take v values answers, against one that may take w of them, v ≤ w.
--     value-fewer                      they answer the same, or the first says that there is one value too many
--     value-fits                       accepted values are no more than the limit
-- A text over the limit, and the answer for a table of so many words:
--     long-text                        1 comes first
--     whole-bad                        what is refused is refused whatever the table
--     good-whole, small-whole          what is accepted has room, or is refused by 7
-- Assumes nothing.
use Rattle.std.specs.Prelude.{Result, Ok, Err}
use Rattle.text.specs.declared.Fault.{Fault}
use Rattle.text.specs.declared.Fault.TheVariants.{Malformed, Forbidden}
use Prim.Native.Nat.{ℕ, zero, suc, ◌+◌, ◌-◌, ◌*◌, ◌≤◌, ◌<◌}
use mathlib.Core.Path.{◌≡◌, sym}
use mathlib.Core.List.{List}
use mathlib.Core.Bool.{Bool, true, false, cond}
use native.Mathlib.Decide.{dec_le}
use native.Mathlib.Omega.{arith}
use lib.ListN.{length}
use lib.Dec.{leb, eqb}
use borrow.Author.Tests.{lt-ltb, le-ltb, le-leb, lt-leb}
use Rattle.text.specs.Limits.{Limits, row_words}
use Rattle.text.specs.Fewer.{with_values}
use Rattle.text.specs.Text.{byte_at}
use Rattle.text.specs.Strings.{string_end, name_of}
use Rattle.text.specs.Tokens.{skip, kind_by, token_at}
use Rattle.text.specs.Tree.{Bracket, square, curly, Forest, none, leaf, node, size, join}
use Rattle.text.specs.Grammar.{closing}
use Rattle.text.specs.Reader.{Read, good, bad, Reader, ItemReader, scalar_with, scalar_at, close_of, container, deep, value_with, after_item, items_from, inside_of, named, colon_at, member_with, member_of, value_at}
use Rattle.text.specs.Whole.{read_of, fit_of, whole_of}
use Rattle.text.specs.declared.Refusal.{Refusal}
use Rattle.text.specs.declared.Refusal.TheVariants.{TooLong, Grammar, Character, Repeated, Deep, Many, Small}

-- ---- how two answers compare ----

-- refusals 2 to 6, which have a place in the text
abbrev pub InText : Refusal → Type 0
InText TooLong = ⊥
InText (Grammar p) = Prim.Unit {0}
InText (Character p) = Prim.Unit {0}
InText (Repeated p) = Prim.Unit {0}
InText (Deep p) = Prim.Unit {0}
InText (Many p) = Prim.Unit {0}
InText (Small n) = ⊥

-- after n values: a refusal 2 to 6, or values that are more than v in all
pub data Over (v n : ℕ) : Read → Type 0 where
  more : (f : Forest) {to : ℕ} → v < n + size f → Over v n (good f to)
  refuses : {r : Refusal} → InText r → Over v n (bad r)

-- Two answers after n values. They are the same, and what they accept is no more than v in all; or the first is cut off at one value too many.
pub data Fewer (v n : ℕ) : Read → Read → Type 0 where
  both : (f : Forest) {to : ℕ} → n + size f ≤ v → Fewer v n (good f to) (good f to)
  neither : {r : Refusal} → InText r → Fewer v n (bad r) (bad r)
  cut : {p : ℕ} {b : Read} → Over v n b → Fewer v n (bad (Many p)) b

-- a refusal is one of 2 to 6
data Tidy : Read → Type 0 where
  accepts : (f : Forest) (to : ℕ) → Tidy (good f to)
  refuses_in : {r : Refusal} → InText r → Tidy (bad r)

tidy : {v n : ℕ} {a b : Read} → Fewer v n a b → Tidy b
tidy (both f {to} h) = accepts f to
tidy (neither i) = refuses_in i
tidy (cut (more f {to} h)) = accepts f to
tidy (cut (refuses i)) = refuses_in i

fewer_cond : {v n : ℕ} {a b c d : Read} (x : Bool) → Fewer v n a b → Fewer v n c d → Fewer v n (cond x a c) (cond x b d)
fewer_cond true p q = p
fewer_cond false p q = q

over_cond : {v n : ℕ} {a b : Read} (x : Bool) → Over v n a → Over v n b → Over v n (cond x a b)
over_cond true p q = p
over_cond false p q = q

-- ---- one value ----

join_size : (f g : Forest) → size (join f g) ≡ size f + size g
unfolding size join
join_size none g = omega arith
join_size (leaf kind ns ne from to rest) g = omega (arith, join_size rest g)
join_size (node b ns ne from to inside rest) g = omega (arith, join_size rest g)

-- what follows speaks of limits v and w for the values, v ≤ w
-- a value of which the first test is whether it is one too many
counted : (v w n p : ℕ) (a b : Read) → v ≤ w → (v ≤ n → Over v n b) → (n < v → Fewer v n a b)
    → Fewer v n (cond (leb v n) (bad (Many p)) a) (cond (leb w n) (bad (Many p)) b)
counted v w n p a b le over fewer = elim (dec_le v n) [
  | yes h ↦ rw (le-leb v n h) (cut (over_cond (leb w n) (refuses tt) (over h)))
  | no h ↦ rw (lt-leb v n (omega arith), lt-leb w n (omega arith)) (fewer (omega arith))
]

scalar_over : (v n kind ns ne at : ℕ) → v ≤ n → (k : Result ℕ (Fault ℕ)) → Over v n (scalar_with kind ns ne at k)
unfolding scalar_with size
scalar_over v n kind ns ne at h (Ok to) = more (leaf kind ns ne at to none) (omega arith)
scalar_over v n kind ns ne at h (Err (Malformed p)) = refuses tt
scalar_over v n kind ns ne at h (Err (Forbidden p)) = refuses tt

scalar_same : (v n kind ns ne at : ℕ) → n < v → (k : Result ℕ (Fault ℕ)) → Fewer v n (scalar_with kind ns ne at k) (scalar_with kind ns ne at k)
unfolding scalar_with size
scalar_same v n kind ns ne at h (Ok to) = both (leaf kind ns ne at to none) (omega arith)
scalar_same v n kind ns ne at h (Err (Malformed p)) = neither tt
scalar_same v n kind ns ne at h (Err (Forbidden p)) = neither tt

close_more : {v n : ℕ} (b : Bracket) (ns ne at : ℕ) {r : Read} → Over v (n + 1) r → Over v n (close_of b ns ne at r)
unfolding close_of size
close_more b ns ne at (more f {to} h) = more (node b ns ne at to f none) (omega arith)
close_more b ns ne at (refuses i) = refuses i

close_fewer : {v n : ℕ} (b : Bracket) (ns ne at : ℕ) {p q : Read} → Fewer v (n + 1) p q → Fewer v n (close_of b ns ne at p) (close_of b ns ne at q)
unfolding close_of size
close_fewer b ns ne at (both f {to} h) = both (node b ns ne at to f none) (omega arith)
close_fewer b ns ne at (neither i) = neither i
close_fewer b ns ne at (cut o) = cut (close_more b ns ne at o)

-- ---- items ----

-- after items that are more than v already, whatever follows
module _ (t : List ℕ) (z v m : ℕ) (item : ItemReader) (items-tidy : (done : Forest) (at n : ℕ) → Tidy (item done at n)) where
  after_over : (done : Forest) (k : Forest → ℕ → Read) (n : ℕ) {r : Read} → m + size done ≡ n → v < n
      → ((f : Forest) (to : ℕ) → Over v m (k f to)) → Tidy r → Over v m (after_item t z done k r)
  unfolding after_item
  after_over done k n e h next (refuses_in i) = refuses i
  after_over done k n e h next (accepts f to) =
      let x = skip t to in
      over_cond (eqb (byte_at t x) z) (more (join done f) (omega (arith, join_size done f)))
      (over_cond (eqb (byte_at t x) 44) (next f (skip t (x + 1))) (refuses tt))

  items_over : (turns at n : ℕ) (done : Forest) → m + size done ≡ n → v < n → Over v m (items_from t item z turns at n done)
  unfolding items_from
  items_over zero at n done e h = refuses tt
  items_over (suc turns) at n done e h =
      after_over done (λ f to. items_from t item z turns to (n + size f) (join done f)) n e h
      (λ f to. items_over turns to (n + size f) (join done f) (omega (arith, join_size done f)) (omega arith))
      (items-tidy done at n)

-- two readers of items that compare at every place, whatever came before
module _ (t : List ℕ) (z v : ℕ) (item full : ItemReader) (compare : (done : Forest) (at n : ℕ) → Fewer v n (item done at n) (full done at n)) where
  -- after an item that takes the count beyond v
  past : (m n : ℕ) (done : Forest) (l : Forest → ℕ → Read) → m + size done ≡ n
      → ((f : Forest) (to : ℕ) → v < n + size f → Over v m (l f to))
      → {b : Read} → Over v n b → Over v m (after_item t z done l b)
  unfolding after_item
  past m n done l e next (refuses i) = refuses i
  past m n done l e next (more f {to} h) =
      let x = skip t to in
      over_cond (eqb (byte_at t x) z) (more (join done f) (omega (arith, join_size done f)))
      (over_cond (eqb (byte_at t x) 44) (next f (skip t (x + 1)) h) (refuses tt))

  after_fewer : (m n : ℕ) (done : Forest) (k l : Forest → ℕ → Read) → m + size done ≡ n
      → ((f : Forest) (to : ℕ) → Fewer v m (k f to) (l f to))
      → ((f : Forest) (to : ℕ) → v < n + size f → Over v m (l f to))
      → {a b : Read} → Fewer v n a b → Fewer v m (after_item t z done k a) (after_item t z done l b)
  unfolding after_item
  after_fewer m n done k l e next far (neither i) = neither i
  after_fewer m n done k l e next far (cut o) = cut (past m n done l e far o)
  after_fewer m n done k l e next far (both f {to} h) =
      let x = skip t to in
      fewer_cond (eqb (byte_at t x) z) (both (join done f) (omega (arith, join_size done f)))
      (fewer_cond (eqb (byte_at t x) 44) (next f (skip t (x + 1))) (neither tt))

  items_fewer : (m turns at n : ℕ) (done : Forest) → m + size done ≡ n → Fewer v m (items_from t item z turns at n done) (items_from t full z turns at n done)
  unfolding items_from
  items_fewer m zero at n done e = neither tt
  items_fewer m (suc turns) at n done e =
      after_fewer m n done (λ f to. items_from t item z turns to (n + size f) (join done f)) (λ f to. items_from t full z turns to (n + size f) (join done f)) e
      (λ f to. items_fewer m turns to (n + size f) (join done f) (omega (arith, join_size done f)))
      (λ f to h. items_over t z v m full (λ d a c. tidy (compare d a c)) turns to (n + size f) (join done f) (omega (arith, join_size done f)) h)
      (compare done at n)

  inside_fewer : (at n : ℕ) → n ≤ v → Fewer v n (inside_of t item z at n) (inside_of t full z at n)
  unfolding inside_of size
  inside_fewer at n h =
      let x = skip t at in
      fewer_cond (eqb (byte_at t x) z) (both none (omega arith)) (items_fewer n (suc (length t)) x n none (omega arith))

  inside_over : (at n : ℕ) → v < n → Over v n (inside_of t full z at n)
  unfolding inside_of size
  inside_over at n h =
      let x = skip t at in
      over_cond (eqb (byte_at t x) z) (more none (omega arith))
      (items_over t z v n full (λ d a c. tidy (compare d a c)) (suc (length t)) x n none (omega arith) h)

-- ---- members, containers and values ----

module _ (L : Limits) (t : List ℕ) (v w : ℕ) (le : v ≤ w) where
  module _ (value full : Reader) (compare : (ns ne at n : ℕ) → Fewer v n (value ns ne at n) (full ns ne at n)) where
    colon_fewer : (at end n : ℕ) → Fewer v n (colon_at t value at end n) (colon_at t full at end n)
    unfolding colon_at
    colon_fewer at end n = fewer_cond (eqb (byte_at t (skip t end)) 58) (compare _ _ _ n) (neither tt)

    name_fewer : (done : Forest) (at n : ℕ) (k : Result ℕ (Fault ℕ))
        → Fewer v n (member_with (with_values L v) t value done at n k) (member_with (with_values L w) t full done at n k)
    unfolding member_with
    name_fewer done at n (Err (Malformed p)) = neither tt
    name_fewer done at n (Err (Forbidden p)) = neither tt
    name_fewer done at n (Ok end) =
        fewer_cond L.unique (fewer_cond (named t (name_of t (at + 1) (end - 1)) done) (neither tt) (colon_fewer at end n)) (colon_fewer at end n)

    member_fewer : (done : Forest) (at n : ℕ) → Fewer v n (member_of (with_values L v) t value done at n) (member_of (with_values L w) t full done at n)
    unfolding member_of
    member_fewer done at n = fewer_cond (eqb (byte_at t at) 34) (name_fewer done at n (string_end t (at + 1))) (neither tt)

  container_fewer : (b : Bracket) (inner full : ℕ → ℕ → Read) → ((at n : ℕ) → n ≤ v → Fewer v n (inner at n) (full at n))
      → ((at n : ℕ) → v < n → Over v n (full at n))
      → (ns ne at n : ℕ) → Fewer v n (container (with_values L v) b inner ns ne at n) (container (with_values L w) b full ns ne at n)
  unfolding container
  container_fewer b inner full compare over ns ne at n =
      counted v w n at _ _ le
      (λ h. close_more b ns ne at (over (at + 1) (n + 1) (omega arith)))
      (λ h. close_fewer b ns ne at (compare (at + 1) (n + 1) (omega arith)))

  scalar_fewer : (kind ns ne at n : ℕ) → Fewer v n (scalar_at (with_values L v) t kind ns ne at n) (scalar_at (with_values L w) t kind ns ne at n)
  unfolding scalar_at
  scalar_fewer kind ns ne at n =
      counted v w n at _ _ le
      (λ h. scalar_over v n kind ns ne at h (token_at t kind at))
      (λ h. scalar_same v n kind ns ne at h (token_at t kind at))

  with_fewer : (array object array2 object2 : Reader) (ns ne at n : ℕ)
      → Fewer v n (array ns ne at n) (array2 ns ne at n) → Fewer v n (object ns ne at n) (object2 ns ne at n)
      → Fewer v n (value_with (with_values L v) t array object ns ne at n) (value_with (with_values L w) t array2 object2 ns ne at n)
  unfolding value_with
  with_fewer array object array2 object2 ns ne at n a o =
      let kind = kind_by (byte_at t at) in
      fewer_cond (eqb kind 0) (neither tt) (fewer_cond (eqb kind 6) a (fewer_cond (eqb kind 7) o (scalar_fewer kind ns ne at n)))

  -- a value, whatever may still be opened
  pub value_fewer : (depth ns ne at n : ℕ) → Fewer v n (value_at (with_values L v) t depth ns ne at n) (value_at (with_values L w) t depth ns ne at n)
  unfolding value_at deep
  value_fewer zero ns ne at n = with_fewer deep deep deep deep ns ne at n (neither tt) (neither tt)
  value_fewer (suc depth) ns ne at n =
      let element : (done : Forest) (at n : ℕ) → Fewer v n (value_at (with_values L v) t depth 0 0 at n) (value_at (with_values L w) t depth 0 0 at n) =
      λ done at n. value_fewer depth 0 0 at n in
      let member = member_fewer _ _ (value_fewer depth) in
      with_fewer _ _ _ _ ns ne at n
      (container_fewer square _ _ (inside_fewer t (closing square) v _ _ element) (inside_over t (closing square) v _ _ element) ns ne at n)
      (container_fewer curly _ _ (inside_fewer t (closing curly) v _ _ member) (inside_over t (closing curly) v _ _ member) ns ne at n)

-- ---- what follows of two answers that compare ----

different : {A : Type 0} (f : Forest) (to : ℕ) (r : Refusal) → good f to ≡ bad r → A
different f to r e = let z : ◌≡◌ {A = ℕ} 0 1 = cc in absurd (omega arith)

fits : {v n : ℕ} {a b : Read} (f : Forest) (to : ℕ) → Fewer v n a b → a ≡ good f to → n + size f ≤ v
fits {v} {n} f to (both g h) e = let same : g ≡ f = cc in rw (← same) h
fits f to (neither {r} i) e = different f to r (sym e)
fits f to (cut {p} o) e = different f to (Many p) (sym e)

-- ---- values and texts ----

-- what is accepted after n values is no more than the limit in all
module _ (L : Limits) (t : List ℕ) (depth ns ne at n : ℕ) where
  pub value_fits : (f : Forest) (to : ℕ) → value_at L t depth ns ne at n ≡ good f to → n + size f ≤ L.values
  value_fits f to e = fits f to (value_fewer L t L.values L.values (omega arith) depth ns ne at n) e

module _ (L : Limits) (t : List ℕ) where
  pub long_text : L.bytes < length t → read_of L t ≡ bad TooLong
  unfolding read_of
  long_text h = rw (lt-ltb L.bytes (length t) h)

-- what reading refuses is refused so whatever the table's room: 7 comes after all others
pub whole_bad : (L : Limits) (words : ℕ) (t : List ℕ) (r : Refusal) → read_of L t ≡ bad r → whole_of L words t ≡ bad r
unfolding whole_of fit_of
whole_bad L words t r e = rw e

-- ---- a table of so many words ----

module _ (L : Limits) (words : ℕ) (t : List ℕ) where
  pub good_whole : (f : Forest) (to : ℕ) → row_words * size f ≤ words → read_of L t ≡ good f to → whole_of L words t ≡ good f to
  unfolding whole_of fit_of
  good_whole f to h e = rw (e, le-ltb words (row_words * size f) h)

  pub small_whole : (f : Forest) (to : ℕ) → words < row_words * size f → read_of L t ≡ good f to → whole_of L words t ≡ bad (Small (size f))
  unfolding whole_of fit_of
  small_whole f to h e = rw (e, lt-ltb words (row_words * size f) h)
