-- The conditions 22 to 26, each by the smallest key of the listed entries that breaks it:
--     least-none, least_more, least_on, least-all    the row with the smallest key, one entry after the other from the last to the first
--     keys-said, walks-said                          what is found of 22, 23 and 24, and of 25 and 26, is what the definition finds
--     fault-parts                                    together they are all of them
-- Assumes nothing.
use Rattle.std.specs.Prelude.{Some, None, Result, Ok, Err, Option}
use Rattle.contact.specs.declared.LocalRefusal.{LocalRefusal}
use Prim.Native.Nat.{ℕ, zero, suc, ◌+◌, ◌-◌, ◌≤◌, ◌<◌}
use mathlib.Core.Path.{◌≡◌, refl, sym, ap, ap₂, ◌∙◌}
use mathlib.Core.Bool.{Bool, true, false, cond}
use mathlib.Core.List.{List}
use mathlib.Core.Option.{Option as Maybe, none, some}
use native.Mathlib.Omega.{arith}
use lib.Dec.{eqb}
use lib.ListN.{get_or}
use borrow.Author.Tests.{le-leb, lt-leb}
use Rattle.laws.specs.Order.{before}
use Rattle.laws.specs.Sorting.{Sorted}
use Rattle.laws.proofs.Bools.{by_test}
use Rattle.text.specs.Doc.{Name, Doc, Members, member, label_at, doc_of}
use Rattle.text.specs.Strings.{name_of}
use Rattle.text.specs.Firsts.{name_start, name_end}
use Rattle.contact.specs.Pointer.{bad_tilde, pointer_of}
use Rattle.contact.specs.Patch.{Walk, arrives, in_array, no_object, walk, is_in_array, is_no_object}
use Rattle.contact.specs.Faults.{PatchFault, all_kept, broken_by, smaller_key, key_if, least_key, least_clash, own_key, walks_to, or_else_fault, fault_in}
use Rattle.contact.specs.Localize.{key_refusal}
use Rattle.pointers.specs.Pointers.{strip}
use Rattle.patch.specs.Children.{key_at}
use Rattle.patch.specs.Entries.{Listed, over, next}
use Rattle.patch.specs.Neighbours.{keys_of, key_order, least_leading}
use Rattle.patch.specs.Conditions.{walk_code, Walked, listed_key, clashes_next, at_fault, smaller_row, least_row, number_of, condition_by, one_condition, key_fault, walk_fault, ListedPlaces, condition_of}
use Rattle.patch.specs.declared.conditions.Fault.{Fault}
use Rattle.patch.specs.declared.conditions.Fault.TheVariants.{Tilde, Own, Clash, InArray, NoObject}
use Rattle.patch.proofs.Listing.Orders.{key_is}
use Rattle.patch.proofs.Listing.Neighbours.{neighbours}
use Rattle.patch.proofs.Listing.Kept.{none_bad_lem}

-- ---- from the last entry to the first

module _ (fault : Fault) (t table rows : List ℕ) (n : ℕ) (walks : List ℕ) where
  abbrev from : (i k : ℕ) → Option ℕ
  from i k = least_row fault t table rows n walks i k

  pub least_none : (i k : ℕ) → k ≡ 0 → None ≡ from i k
  unfolding least_row
  least_none i k e = rw e

  -- the entry in front of those from i on
  least_step : (i : ℕ) → 0 < i → i ≤ n
      → from (i - 1) (n - (i - 1))
      ≡ cond (at_fault fault t table rows n walks (i - 1)) (smaller_row t table (get_or rows (i - 1) 0) (from i (n - i))) (from i (n - i))
  unfolding least_row
  least_step i p h =
      let e : n - (i - 1) ≡ suc (n - i) = omega arith in
      let f : i - 1 + 1 ≡ i = omega arith in
      rw (e, f)

  pub least_more : (i : ℕ) {later : (Option ℕ)} → 0 < i → i ≤ n → later ≡ from i (n - i) → at_fault fault t table rows n walks (i - 1) ≡ true
      → smaller_row t table (get_or rows (i - 1) 0) later ≡ from (i - 1) (n - (i - 1))
  least_more i p h e f = rw (least_step i p h, f, e)

  pub least_on : (i : ℕ) {later : (Option ℕ)} → 0 < i → i ≤ n → later ≡ from i (n - i) → at_fault fault t table rows n walks (i - 1) ≡ false
      → later ≡ from (i - 1) (n - (i - 1))
  least_on i p h e f = rw (least_step i p h, f) e

  pub least_all : (i : ℕ) → i ≡ 0 → from i (n - i) ≡ from 0 n
  least_all i e = let f : n - i ≡ n = omega arith in ap₂ from e f

-- ---- a row of the list

module _ (t table rows : List ℕ) (n : ℕ) where
  -- what is named is one of the first n
  abbrev InList : Option ℕ → Type 0
  InList None = Prim.Unit {0}
  InList (Some row) = (i : ℕ) × (i < n) × (get_or rows i 0 ≡ row)

  in_smaller : (row : ℕ) (later : Option ℕ) → InList (Some row) → InList later → InList (smaller_row t table row later)
  in_smaller row None h l = h
  in_smaller row (Some other) h l = by_test (before (key_at t table other) (key_at t table row)) (λ b. rw b l) (λ b. rw b h)

  in_list : (fault : Fault) (walks : List ℕ) (i k : ℕ) → i + k ≤ n → InList (least_row fault t table rows n walks i k)
  unfolding least_row
  in_list fault walks i zero h = tt
  in_list fault walks i (suc k) h =
      let l = in_list fault walks (i + 1) k (omega arith) in
      by_test (at_fault fault t table rows n walks i)
      (λ b. rw b (in_smaller (get_or rows i 0) (least_row fault t table rows n walks (i + 1) k) (i, omega arith, refl) l))
      (λ b. rw b l)

-- ---- its key

-- the key of a row that is named
abbrev key_of : (t table : List ℕ) → Option ℕ → Maybe Name
key_of t table None = none
key_of t table (Some row) = some (key_at t table row)

module _ (t table : List ℕ) where
  smaller_key_lem : (row : ℕ) (later : Option ℕ) → key_of t table (smaller_row t table row later) ≡ smaller_key (some (key_at t table row)) (key_of t table later)
  smaller_key_lem row None = refl
  smaller_key_lem row (Some other) = by_test (before (key_at t table other) (key_at t table row)) (λ b. rw b) (λ b. rw b)

  key_step : (b : Bool) (row : ℕ) (later : Option ℕ)
      → key_of t table (cond b (smaller_row t table row later) later) ≡ smaller_key (key_if b (key_at t table row)) (key_of t table later)
  key_step true row later = smaller_key_lem row later
  key_step false row later = refl

module _ {t table rows : List ℕ} {n : ℕ} where
  -- a fault that is one of each key by itself
  least_keys : (fault : Fault) (walks : List ℕ) (f : Name → Bool) {i : ℕ} {ms : Members} → Listed t table rows i n ms
      → ((j : ℕ) → j < n → at_fault fault t table rows n walks j ≡ f (listed_key t table rows j)) → (k : ℕ) → i + k ≡ n
      → key_of t table (least_row fault t table rows n walks i k) ≡ least_key f ms
  unfolding least_row
  least_keys fault walks f over h zero e = refl
  least_keys fault walks f over h (suc k) e = absurd (omega arith)
  least_keys fault walks f (next g lt s kinds stands l) h zero e = absurd (omega arith)
  least_keys fault walks f (next {i} g lt s kinds stands l) h (suc k) e =
      key_step t table (at_fault fault t table rows n walks i) (get_or rows i 0) (least_row fault t table rows n walks (i + 1) k)
      ∙ ap₂ smaller_key (ap (λ (b : Bool). key_if b (listed_key t table rows i)) (h i lt) ∙ ap (λ (m : Name). key_if (f m) m) (key_is t g s stands))
      (least_keys fault walks f l h k (omega arith))

  -- a clash with the next: the entry at i, and those from the next one on
  front_clash : (i : ℕ) {j : ℕ} {ms : Members} → Listed t table rows j n ms → j ≡ i + 1 → (key : Name) (label : List ℕ) (d : Doc) → listed_key t table rows i ≡ key
      → smaller_key (key_if (clashes_next t table rows n i) (listed_key t table rows i)) (least_leading ms) ≡ least_leading (member key label d ms)
  front_clash i over e key label d h = rw (le-leb n (i + 1) (omega arith))
  front_clash i (next g lt s kinds stands l) e key label d h = rw (lt-leb n (i + 1) (omega arith), h, ← e, key_is t g s stands)

  least_clash_lem : (walks : List ℕ) {i : ℕ} {ms : Members} → Listed t table rows i n ms → (k : ℕ) → i + k ≡ n
      → key_of t table (least_row Clash t table rows n walks i k) ≡ least_leading ms
  unfolding least_row
  least_clash_lem walks over zero e = refl
  least_clash_lem walks over (suc k) e = absurd (omega arith)
  least_clash_lem walks (next g lt s kinds stands l) zero e = absurd (omega arith)
  least_clash_lem walks (next {i} g lt s kinds stands l) (suc k) e =
      key_step t table (clashes_next t table rows n i) (get_or rows i 0) (least_row Clash t table rows n walks (i + 1) k)
      ∙ ap (smaller_key (key_if (clashes_next t table rows n i) (listed_key t table rows i))) (least_clash_lem walks l k (omega arith))
      ∙ front_clash i l refl (name_of t (name_start g) (name_end g)) (label_at t (name_start g) (name_end g)) (doc_of t g) (key_is t g s stands)

-- ---- one condition and then the others

-- what is said first, or else what is said then
abbrev pub or_else : Result Unit LocalRefusal → Result Unit LocalRefusal → Result Unit LocalRefusal
or_else (Ok tt) later = later
or_else (Err r) later = Err r

or_kept : (c : Result Unit LocalRefusal) → or_else c (Ok tt) ≡ c
or_kept (Ok tt) = refl
or_kept (Err r) = refl

-- after 22 the neighbours are enough for 24
by_neighbours : (ms : Members) → Sorted key_order (keys_of ms) → (bad own : Maybe Name) → least_key bad_tilde ms ≡ bad
    → or_else_fault 22 bad (or_else_fault 23 own (or_else_fault 24 (least_leading ms) all_kept))
    ≡ or_else_fault 22 bad (or_else_fault 23 own (or_else_fault 24 (least_clash ms) all_kept))
by_neighbours ms s none own e = ap (λ (o : Maybe Name). or_else_fault 23 own (or_else_fault 24 o all_kept)) (neighbours ms s (none_bad_lem ms e))
by_neighbours ms s (some k) own e = refl

in_array_code : (w : Walk) → eqb (walk_code w) 1 ≡ is_in_array w
in_array_code arrives = refl
in_array_code in_array = refl
in_array_code no_object = refl

no_object_code : (w : Walk) → eqb (walk_code w) 2 ≡ is_no_object w
no_object_code arrives = refl
no_object_code in_array = refl
no_object_code no_object = refl

module _ (t table rows : List ℕ) (n : ℕ) (walks : List ℕ) where
  abbrev one : Fault → Result Unit LocalRefusal
  one fault = one_condition fault t table rows n walks

  abbrev found : Fault → Option ℕ
  found fault = least_row fault t table rows n walks 0 n

  -- what the walk left of an entry says where it ended
  by_code : (d : Doc) → Walked t table rows walks 0 n 0 d → (code : ℕ) (is : Walk → Bool) → ((x : Walk) → eqb (walk_code x) code ≡ is x) → (j : ℕ) → j < n
      → eqb (get_or walks j 0) code ≡ walks_to is d (listed_key t table rows j)
  unfolding strip
  by_code d w code is h j lt = ap (λ (b : ℕ). eqb b code) (w j (omega arith) lt) ∙ h (walk (pointer_of (listed_key t table rows j)) d)

  module _ (place : Name → ℕ) (p : ListedPlaces t table rows n place) where
    -- a row of the list stands for its key
    said_by : (fault : Fault) (named : Option ℕ) → InList t table rows n named → (rest : PatchFault)
        → or_else (condition_by table fault named) (condition_of place rest) ≡ condition_of place (or_else_fault (number_of fault) (key_of t table named) rest)
    said_by fault None h rest = refl
    said_by fault (Some row) (i, lt, e) rest = ap (λ (at : ℕ). Err (key_refusal (number_of fault) at)) (sym (rw e at (p i lt)))

    said : (fault : Fault) (key : Maybe Name) → key_of t table (found fault) ≡ key → (later : Result Unit LocalRefusal) (rest : PatchFault) → later ≡ condition_of place rest
        → or_else (one fault) later ≡ condition_of place (or_else_fault (number_of fault) key rest)
    said fault key e later rest f =
        ap (or_else (one fault)) f
        ∙ said_by fault (found fault) (in_list t table rows n fault walks 0 n (omega arith)) rest
        ∙ ap (λ (o : Maybe Name). condition_of place (or_else_fault (number_of fault) o rest)) e

    -- the last one, with none behind it
    said_last : (fault : Fault) (key : Maybe Name) → key_of t table (found fault) ≡ key → one fault ≡ condition_of place (or_else_fault (number_of fault) key all_kept)
    said_last fault key e = sym (or_kept (one fault)) ∙ said fault key e (Ok tt) all_kept refl

    pub keys_said : (ms : Members) → Listed t table rows 0 n ms → Sorted key_order (keys_of ms)
        → or_else (one Tilde) (or_else (one Own) (one Clash)) ≡ condition_of place (key_fault ms)
    keys_said ms l s =
        said Tilde (least_key bad_tilde ms) (least_keys Tilde walks bad_tilde l (λ j lt. refl) n (omega arith)) (or_else (one Own) (one Clash))
        (or_else_fault 23 (least_key own_key ms) (or_else_fault 24 (least_leading ms) all_kept))
        (said Own (least_key own_key ms) (least_keys Own walks own_key l (λ j lt. refl) n (omega arith)) (one Clash) (or_else_fault 24 (least_leading ms) all_kept)
        (said_last Clash (least_leading ms) (least_clash_lem walks l n (omega arith))))
        ∙ ap (condition_of place) (by_neighbours ms s (least_key bad_tilde ms) (least_key own_key ms) refl)

    pub walks_said : (d : Doc) (ms : Members) → Listed t table rows 0 n ms → Walked t table rows walks 0 n 0 d
        → or_else (one InArray) (one NoObject) ≡ condition_of place (walk_fault d ms)
    walks_said d ms l w =
        said InArray (least_key (walks_to is_in_array d) ms) (least_keys InArray walks (walks_to is_in_array d) l (by_code d w 1 is_in_array in_array_code) n (omega arith))
        (one NoObject) (or_else_fault 26 (least_key (walks_to is_no_object d) ms) all_kept)
        (said_last NoObject (least_key (walks_to is_no_object d) ms)
        (least_keys NoObject walks (walks_to is_no_object d) l (by_code d w 2 is_no_object no_object_code) n (omega arith)))

-- ---- all of them

-- what is found first, or else what is found then
abbrev pub or_then_fault : PatchFault → PatchFault → PatchFault
or_then_fault all_kept rest = rest
or_then_fault (broken_by number key) rest = broken_by number key

or_parts : (a b c : Maybe Name) (rest : PatchFault)
    → or_else_fault 22 a (or_else_fault 23 b (or_else_fault 24 c rest)) ≡ or_then_fault (or_else_fault 22 a (or_else_fault 23 b (or_else_fault 24 c all_kept))) rest
or_parts none none none rest = refl
or_parts none none (some k) rest = refl
or_parts none (some k) c rest = refl
or_parts (some k) b c rest = refl

pub fault_parts : (d : Doc) (ms : Members) → fault_in d ms ≡ or_then_fault (key_fault ms) (walk_fault d ms)
unfolding fault_in
fault_parts d ms = or_parts (least_key bad_tilde ms) (least_key own_key ms) (least_clash ms) (walk_fault d ms)
