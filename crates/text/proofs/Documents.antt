-- From a text's tree to its document (specs/Doc.antt): what a tree's values are in it, so that rows can be read for a document.
--     doc-kind, doc-token, doc-below, members-first                 the parts of a value are those of the first value of the tree
--     content-part, label-part                                      the content of a string and the name as written are parts of the text
--     count-members, count-doc, count-root                          a document has as many values as the tree
--     distinct-names                                                where a repeated name is refused, the names of an accepted text are distinct
-- Assumes nothing.
use Prim.Native.Nat.{ℕ, suc, ◌+◌, ◌-◌, ◌≤◌, ◌<◌}
use mathlib.Core.Path.{◌≡◌, refl, sym, ap, ◌∙◌}
use mathlib.Core.List.{List}
use mathlib.Core.Bool.{Bool, true, false, cond}
use mathlib.Core.Option.{none, some}
use native.Mathlib.Omega.{arith}
use lib.ListN.{length}
use borrow.Author.Tests.{ne_eqb}
use Rattle.laws.specs.Lists.{part_of}
use Rattle.laws.specs.Order.{same}
use Rattle.laws.proofs.Splits.{length_part}
use Rattle.laws.proofs.Parts.{part_part}
use Rattle.laws.proofs.Orders.{eq_same, same_eq}
use Rattle.text.specs.Limits.{Limits}
use Rattle.text.specs.Strings.{decode, name_of, content_of}
use Rattle.text.specs.Tree.{Bracket, square, curly, Forest, leaf, node, size, join}
use Rattle.text.specs.Tree as T
use Rattle.text.specs.Firsts.{HasFirst, kind_at, name_start, name_end, start_at, end_at, inside_at, below_at, rest_at, Kinds}
use Rattle.text.specs.Reader.{good, named, value_at}
use Rattle.text.specs.Tokens.{skip}
use Rattle.text.specs.Whole.{read_of}
use Rattle.text.specs.Doc.{Name, Doc, scalar, array, object, Members, empty, member, boxed, label_at, members_of, doc_of, kind_of, token_of, children_of, count_of, count_all, property, seek}
use Rattle.text.specs.Distinct.{Distinct, DistinctEntries, DistinctMembers}
use Rattle.text.proofs.Standing.{first_and_rest}
use Rattle.text.proofs.Induction.{Rules, value_induction, read_accepted}

module _ (t : List ℕ) where
  -- ---- the first value of a tree ----

  -- its kind is the row's
  pub doc_kind : (f : Forest) → HasFirst f → kind_of (doc_of t f) ≡ kind_at f
  unfolding doc_of
  doc_kind T.none s = absurd s
  doc_kind (leaf kind ns ne from to rest) s = refl
  doc_kind (node square ns ne from to inside rest) s = refl
  doc_kind (node curly ns ne from to inside rest) s = refl

  -- the token of a value that holds no others is what stands from its start to its end
  pub doc_token : (f : Forest) → HasFirst f → kind_at f < 6 → token_of (doc_of t f) ≡ part_of t (start_at f) (end_at f)
  unfolding doc_of
  doc_token T.none s k = absurd s
  doc_token (leaf kind ns ne from to rest) s k = refl
  doc_token (node square ns ne from to inside rest) s k = absurd (omega arith)
  doc_token (node curly ns ne from to inside rest) s k = absurd (omega arith)

  pub doc_scalar : (f : Forest) → HasFirst f → kind_at f < 6 → doc_of t f ≡ scalar (kind_at f) (part_of t (start_at f) (end_at f))
  unfolding doc_of
  doc_scalar T.none s k = absurd s
  doc_scalar (leaf kind ns ne from to rest) s k = refl
  doc_scalar (node square ns ne from to inside rest) s k = absurd (omega arith)
  doc_scalar (node curly ns ne from to inside rest) s k = absurd (omega arith)

  -- what stands right below it is what is inside
  pub doc_below : (f : Forest) → children_of (doc_of t f) ≡ members_of t (inside_at f)
  unfolding doc_of members_of
  doc_below T.none = refl
  doc_below (leaf kind ns ne from to rest) = refl
  doc_below (node square ns ne from to inside rest) = refl
  doc_below (node curly ns ne from to inside rest) = refl

  -- a row of kind 6 or 7 is a container's
  pub doc_array : (f : Forest) → HasFirst f → Kinds f → kind_at f ≡ 6 → doc_of t f ≡ array (members_of t (inside_at f))
  unfolding doc_of
  doc_array T.none s h k = absurd s
  doc_array (leaf kind ns ne from to rest) s h k = absurd (omega (arith, h.0.most))
  doc_array (node square ns ne from to inside rest) s h k = refl
  doc_array (node curly ns ne from to inside rest) s h k = absurd (omega arith)

  pub doc_object : (f : Forest) → HasFirst f → Kinds f → kind_at f ≡ 7 → doc_of t f ≡ object (members_of t (inside_at f))
  unfolding doc_of
  doc_object T.none s h k = absurd s
  doc_object (leaf kind ns ne from to rest) s h k = absurd (omega (arith, h.0.most))
  doc_object (node square ns ne from to inside rest) s h k = absurd (omega arith)
  doc_object (node curly ns ne from to inside rest) s h k = refl

  -- the first member, and those after it
  pub members_first : (f : Forest) → HasFirst f
      → members_of t f ≡ member (name_of t (name_start f) (name_end f)) (label_at t (name_start f) (name_end f)) (doc_of t f) (members_of t (rest_at f))
  unfolding doc_of members_of
  members_first T.none s = absurd s
  members_first (leaf kind ns ne from to rest) s = refl
  members_first (node b ns ne from to inside rest) s = refl

  pub members_none : members_of t T.none ≡ empty
  unfolding members_of
  members_none = refl

  -- ---- names and strings, where they stand in the text ----

  -- the token of a string decodes to what its inside decodes to
  pub content_part : (from to : ℕ) → from + 1 < to → to ≤ length t → content_of (part_of t from to) ≡ name_of t (from + 1) (to - 1)
  content_part from to h k =
      let n : length (part_of t from to) ≡ to - from = length_part t from to (omega arith) k in
      let place : from + (to - from - 1) ≡ to - 1 = omega arith in
      ap (λ (m : ℕ). decode (part_of (part_of t from to) 1 (m - 1))) n
      ∙ ap decode (part_part t from to 1 (to - from - 1) (omega arith) k (omega arith) (omega arith) ∙ ap (part_of t (from + 1)) place)

  -- the name as written, of a value that has a name
  pub label_part : (ns ne : ℕ) → 0 < ns → label_at t ns ne ≡ part_of t (ns - 1) (ne + 1)
  label_part ns ne h = rw (ne_eqb ns 0 (omega arith))

  -- ---- counts ----

  box_count : (b : Bracket) (ms : Members) → count_of (boxed b ms) ≡ suc (count_all ms)
  unfolding count_of
  box_count square ms = refl
  box_count curly ms = refl

  pub count_members : (f : Forest) → count_all (members_of t f) ≡ size f
  unfolding members_of count_of count_all size
  count_members T.none = refl
  count_members (leaf kind ns ne from to rest) = omega (arith, count_members rest)
  count_members (node b ns ne from to inside rest) =
      omega (arith, box_count b (members_of t inside), count_members inside, count_members rest)

  -- a value counts itself and those below it
  pub count_doc : (f : Forest) → HasFirst f → count_of (doc_of t f) ≡ 1 + below_at f
  unfolding doc_of count_of size
  count_doc T.none s = absurd s
  count_doc (leaf kind ns ne from to rest) s = omega arith
  count_doc (node b ns ne from to inside rest) s = omega (arith, box_count b (members_of t inside), count_members inside)

  -- a text's one value counts all
  pub count_root : (f : Forest) → HasFirst f → rest_at f ≡ T.none → count_of (doc_of t f) ≡ size f
  unfolding size
  count_root f s e = let rest : size (rest_at f) ≡ 0 = rw e in omega (arith, count_doc f s, first_and_rest f s)

  -- ---- names ----

  name_differs : (m n : Name) → same m n ≡ false → same n m ≡ false
  name_differs m n h = go (same n m) refl
    where
      go : (x : Bool) → same n m ≡ x → same n m ≡ false
      go false e = e
      go true e =
          let back : same m n ≡ true = eq_same m n (sym (same_eq n m e)) in
          let z : ◌≡◌ {A = ℕ} 0 1 = cc in
          absurd (omega arith)

  -- a member of another name is passed over, and one that was not found stands nowhere
  seek_past : (n m : Name) (label : List ℕ) (d : Doc) (ms : Members) → same m n ≡ false → seek n ms ≡ none → seek n (member m label d ms) ≡ none
  seek_past n m label d ms e h = rw (e, h)

  pub seek_name : (n m : Name) (label : List ℕ) (d : Doc) (ms : Members) → seek n (member m label d ms) ≡ none → same m n ≡ false
  seek_name n m label d ms h = go (same m n) refl
    where
      go : (x : Bool) → same m n ≡ x → same m n ≡ false
      go false e = e
      go true e =
          let found : some (property label d) ≡ none = rw e at h in
          let z : ◌≡◌ {A = ℕ} 0 1 = cc in
          absurd (omega arith)

  pub seek_later : (n m : Name) (label : List ℕ) (d : Doc) (ms : Members) → seek n (member m label d ms) ≡ none → seek n ms ≡ none
  seek_later n m label d ms h = rw (seek_name n m label d ms h) at h

  seek_join : (n : Name) (done f : Forest) → seek n (members_of t done) ≡ none → seek n (members_of t f) ≡ none → seek n (members_of t (join done f)) ≡ none
  unfolding members_of join
  seek_join n T.none f h k = k
  seek_join n (leaf kind ns ne from to rest) f h k =
      seek_past n (name_of t ns ne) (label_at t ns ne) _ (members_of t (join rest f)) (seek_name n (name_of t ns ne) (label_at t ns ne) _ (members_of t rest) h)
      (seek_join n rest f (seek_later n (name_of t ns ne) (label_at t ns ne) _ (members_of t rest) h) k)
  seek_join n (node b ns ne from to inside rest) f h k =
      seek_past n (name_of t ns ne) (label_at t ns ne) _ (members_of t (join rest f)) (seek_name n (name_of t ns ne) (label_at t ns ne) _ (members_of t rest) h)
      (seek_join n rest f (seek_later n (name_of t ns ne) (label_at t ns ne) _ (members_of t rest) h) k)

  -- a name that is not among those that are done differs from the first of them, and is not among the others
  not_true : (x y : Bool) → cond x true y ≡ false → (x ≡ false) × (y ≡ false)
  not_true true y e = let z : ◌≡◌ {A = ℕ} 0 1 = cc in absurd (omega arith)
  not_true false y e = (refl, e)

  -- one member more
  module _ (f : Forest) (name : Name) (label : List ℕ) (d : Doc) (is : members_of t f ≡ member name label d empty) (k : Distinct d) where
    apart : (m : Name) (done : Forest) → same m name ≡ false → seek m (members_of t done) ≡ none → seek m (members_of t (join done f)) ≡ none
    apart m done e h = seek_join m done f h (rw is (seek_past m name label d empty (name_differs m name e) refl))

    distinct_join : (done : Forest) → named t name done ≡ false → DistinctMembers (members_of t done) → DistinctMembers (members_of t (join done f))
    unfolding members_of join named
    distinct_join T.none e h = rw is (refl, k, tt)
    distinct_join (leaf kind ns ne from to rest) e h =
        let (x, y) = not_true (same (name_of t ns ne) name) (named t name rest) e in
        (apart (name_of t ns ne) rest x h.0, h.1, distinct_join rest y h.2)
    distinct_join (node b ns ne from to inside rest) e h =
        let (x, y) = not_true (same (name_of t ns ne) name) (named t name rest) e in
        (apart (name_of t ns ne) rest x h.0, h.1, distinct_join rest y h.2)

    entries_join : (done : Forest) → DistinctEntries (members_of t done) → DistinctEntries (members_of t (join done f))
    unfolding members_of join
    entries_join T.none h = rw is (k, tt)
    entries_join (leaf kind ns ne from to rest) h = (h.0, entries_join rest h.1)
    entries_join (node b ns ne from to inside rest) h = (h.0, entries_join rest h.1)

-- one value, with the places of its name, whose document has distinct names
record One (L : Limits) (t : List ℕ) (ns ne : ℕ) (f : Forest) : Type 0 where
  is : (label : List ℕ) × (members_of t f ≡ member (name_of t ns ne) label (doc_of t f) empty)
  distinct : L.unique ≡ true → Distinct (doc_of t f)

-- what stands inside a container has distinct names
abbrev pub DistinctIn : Bracket → Members → Type 0
DistinctIn square ms = DistinctEntries ms
DistinctIn curly ms = DistinctMembers ms

box_distinct : (b : Bracket) (ms : Members) → DistinctIn b ms → Distinct (boxed b ms)
box_distinct square ms h = h
box_distinct curly ms h = h

none_distinct : (b : Bracket) → DistinctIn b empty
none_distinct square = tt
none_distinct curly = tt

distinct_rules : (L : Limits) (t : List ℕ)
    → Rules L t (λ depth ns ne at f to. One L t ns ne f) (λ b depth edge at f. L.unique ≡ true → DistinctIn b (members_of t f))
unfolding members_of doc_of
distinct_rules L t =
    record {
      token = λ depth ns ne at kind to s k e. record { is = (label_at t ns ne, refl); distinct = λ u. tt };
      box = λ b depth ns ne edge at f k h z. record { is = (label_at t ns ne, refl); distinct = λ u. box_distinct b (members_of t f) (h u) };
      start = λ b depth edge k u. none_distinct b;
      comma = λ b depth edge at f h c. h;
      element = λ depth edge at to done f h o u. entries_join t f (name_of t 0 0) o.is.0 (doc_of t f) o.is.1 (o.distinct u) done (h u);
      member = λ depth edge at end to done f h q e fresh c o u.
          distinct_join t f (name_of t (at + 1) (end - 1)) o.is.0 (doc_of t f) o.is.1 (o.distinct u) done (fresh u) (h u);
    }

-- where a repeated name is refused, an accepted value has distinct names in each object
pub distinct_value : (L : Limits) (t : List ℕ) → L.unique ≡ true → (depth ns ne at n : ℕ) (f : Forest) (to : ℕ)
    → value_at L t depth ns ne at n ≡ good f to → Distinct (doc_of t f)
distinct_value L t u depth ns ne at n f to e = (value_induction L t _ _ (distinct_rules L t) depth ns ne at n f to e).distinct u

pub distinct_names : (L : Limits) (t : List ℕ) → L.unique ≡ true → (f : Forest) (to : ℕ) → read_of L t ≡ good f to → Distinct (doc_of t f)
distinct_names L t u f to e = let a = read_accepted L t f to e in distinct_value L t u L.depth 0 0 (skip t 0) 0 f a.end a.value
