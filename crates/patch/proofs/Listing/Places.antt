-- The rows of the members of a PatchObject, as they are listed and sorted:
--     rows-listed       the members stand at them
--     rows-places       the place of each key is that of the name at its row, if the names are distinct
--     sorted-places     so it is after sorting
--     sorted-alike      and the keys begin alike as they did before
-- Assumes nothing.
use Rattle.std.specs.declared.cmp.Ordering.{Ordering}
use Prim.Native.Nat.{ℕ, zero, suc, ◌+◌, ◌-◌, ◌≤◌, ◌<◌}
use mathlib.Core.Path.{◌≡◌, sym, ap, ◌∙◌}
use mathlib.Core.Bool.{true, false}
use mathlib.Core.List.{List}
use native.Mathlib.Decide.{dec_le}
use native.Mathlib.Omega.{arith}
use lib.ListN.{length, get_or}
use lib.Seq.{slice}
use Rattle.laws.specs.Each.{Some}
use Rattle.laws.specs.Each as each
use Rattle.laws.specs.Order.{same}
use Rattle.laws.specs.Sorting.{Arranged}
use Rattle.laws.proofs.Slices.{slice_more}
use Rattle.laws.proofs.Earliest.{perm_in, perm_back}
use Rattle.laws.proofs.Searching.{Stands, in_slice}
use Rattle.text.specs.Strings.{name_of}
use Rattle.text.specs.Tree.{Forest}
use Rattle.text.specs.Tree as T
use Rattle.text.specs.Firsts.{HasFirst, Kinds, name_start, name_end, rest_at}
use Rattle.text.specs.Standing as S
use Rattle.text.specs.Doc.{Name, members_of}
use Rattle.text.specs.Distinct.{DistinctMembers}
use Rattle.text.proofs.Promise.{first_row_lem, next, members_first, members_none, same_yes, same_no}
use Rattle.json_reader.specs.Rows.{name_start_in}
use Rattle.json_reader.proofs.Seeking.{rest_kinds}
use Rattle.contact.specs.Conditions.{HasKey, first, later}
use Rattle.contact.specs.Places.{quote_of}
use Rattle.contact.proofs.Patching.Places.{other_key}
use Rattle.patch.specs.Children.{key_at}
use Rattle.patch.specs.Entries.{Listed, RowsOf, no_more, one_more}
use Rattle.patch.specs.Entries as entries
use Rattle.patch.specs.Conditions.{ListedPlaces}
use Rattle.patch.specs.Tails.{BeginAlike}
use Rattle.patch.proofs.Listing.Orders.{key_is}

-- ---- as they stand in the text

quote_here : (t : List ℕ) (n : Name) (f : Forest) → HasFirst f → same (name_of t (name_start f) (name_end f)) n ≡ true → quote_of t n f ≡ name_start f - 1
unfolding quote_of
quote_here t n T.none s e = absurd s
quote_here t n (T.leaf kind ns ne from to rest) s e = rw e
quote_here t n (T.node b ns ne from to inside rest) s e = rw e

quote_on : (t : List ℕ) (n : Name) (f : Forest) → HasFirst f → same (name_of t (name_start f) (name_end f)) n ≡ false
    → quote_of t n f ≡ quote_of t n (rest_at f)
unfolding quote_of
quote_on t n T.none s e = absurd s
quote_on t n (T.leaf kind ns ne from to rest) s e = rw e
quote_on t n (T.node b ns ne from to inside rest) s e = rw e

-- a row among those of the values f: its key is one of theirs, and its quote is where its name is
record RowAmong (t table : List ℕ) (f : Forest) (row : ℕ) : Type 0 where
  key : HasKey (key_at t table row) (members_of t f)
  quote : quote_of t (key_at t table row) f ≡ name_start_in table row - 1

module _ (t : List ℕ) {table : List ℕ} where
  first_among : {k : ℕ} (f : Forest) → HasFirst f → S.Stands table k f → RowAmong t table f k
  first_among {k} f s h =
      let e = key_is t f s h in
      record {
        key = rw (e, members_first t f s) first;
        quote = quote_here t (key_at t table k) f s (same_yes (sym e)) ∙ ap (λ (x : ℕ). x - 1) (sym (first_row_lem f s h).name_starts);
      }

  later_among : {row : ℕ} (f : Forest) → HasFirst f → DistinctMembers (members_of t f) → RowAmong t table (rest_at f) row → RowAmong t table f row
  later_among {row} f s d a =
      let all = rw (members_first t f s) at d in
      record {
        key = rw (members_first t f s) (later a.key);
        quote = quote_on t (key_at t table row) f s (same_no (other_key (members_of t (rest_at f)) all.0 a.key)) ∙ a.quote;
      }

module _ (t : List ℕ) {table rows : List ℕ} where
  pub rows_listed : {i n k : ℕ} {f : Forest} → S.Stands table k f → Kinds f → RowsOf rows i n k f → Listed t table rows i n (members_of t f)
  rows_listed h k no_more = rw (members_none t) entries.over
  rows_listed h k (one_more f lt s e r) =
      rw (members_first t f s) (entries.next f lt s k (rw e h) (rows_listed (next f s h) (rest_kinds f k) r))

  rows_among : {i n k : ℕ} {f : Forest} → S.Stands table k f → DistinctMembers (members_of t f) → RowsOf rows i n k f → (j : ℕ) → i ≤ j → j < n
      → RowAmong t table f (get_or rows j 0)
  rows_among h d no_more j low high = absurd (omega arith)
  rows_among {i} h d (one_more f lt s e r) j low high =
      elim (dec_le j i) [
        | yes le ↦ let here : j ≡ i = omega arith in rw (here, e) (first_among t f s h)
        | no more ↦ later_among t f s d (rows_among (next f s h) (rw (members_first t f s) at d).2 r j (omega arith) high)
      ]

  pub rows_places : {n k : ℕ} {f : Forest} (place : Name → ℕ) → S.Stands table k f → DistinctMembers (members_of t f)
      → ((key : Name) → HasKey key (members_of t f) → place key ≡ quote_of t key f) → RowsOf rows 0 n k f → ListedPlaces t table rows n place
  rows_places place h d p r i lt = let a = rows_among h d r i (omega arith) lt in p (key_at t table (get_or rows i 0)) a.key ∙ a.quote

-- ---- sorted

-- a word of a part is in it
slice_in : (m : ℕ) (l : List ℕ) (lo hi i : ℕ) → lo + m ≡ i → i < hi → hi ≤ length l → Some (λ x. x ≡ get_or l i 0) (slice lo hi l)
slice_in zero l lo hi i e lt r = let here : lo ≡ i = omega arith in rw (slice_more lo hi l (omega arith) r) (each.here (ap (λ (x : ℕ). get_or l x 0) here))
slice_in (suc m) l lo hi i e lt r = rw (slice_more lo hi l (omega arith) r) (each.later (slice_in m l (lo + 1) hi i (omega arith) lt r))

-- so each word of a sorted part was in it before
was_in : {o : ℕ → ℕ → Ordering} {old new : List ℕ} {n : ℕ} → n ≤ length old → Arranged o old 0 n new → (i : ℕ) → i < n → Stands old 0 n (get_or new i 0)
was_in {old = old} {new} {n} r a i lt =
    in_slice n old 0 n (get_or new i 0) (omega arith) r
    (perm_in (perm_back a.perm) (slice_in i new 0 n i (omega arith) lt (omega (arith, a.long))))

pub sorted_places : (t table : List ℕ) {old new : List ℕ} {n : ℕ} (place : Name → ℕ) {o : ℕ → ℕ → Ordering} → n ≤ length old → Arranged o old 0 n new
    → ListedPlaces t table old n place → ListedPlaces t table new n place
sorted_places t table place r a p i lt = let s = was_in r a i lt in rw (← s.is) (p s.at s.upto_end)

pub sorted_alike : (t table : List ℕ) {old new : List ℕ} {n k : ℕ} {o : ℕ → ℕ → Ordering} → n ≤ length old → BeginAlike t table old n k → Arranged o old 0 n new
    → BeginAlike t table new n k
sorted_alike t table r h a = record { like = h.like; all = λ i lt. let s = was_in r a i lt in rw (← s.is) (h.all s.at s.upto_end) }
