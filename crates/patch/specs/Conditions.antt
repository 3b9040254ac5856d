-- Which of the conditions 22 to 26 the listed entries break first, and the key that breaks it: the smallest in byte order, named by its place.
-- Assumes nothing: these are definitions.
use Rattle.std.specs.Prelude.{Option, Some, None, Result, Ok, Err}
use Rattle.contact.specs.declared.LocalRefusal.{LocalRefusal}
use Rattle.std.specs.Prelude.{ℕ, zero, suc, ◌+◌, ◌-◌, ◌≤◌, ◌<◌, ◌≡◌, Bool, false, cond, List, eqb, leb, get_or}
use Rattle.laws.specs.Order.{before}
use Rattle.laws.specs.Sorting.{Sorted}
use Rattle.text.specs.Doc.{Name, Doc, Members}
use Rattle.json_reader.specs.Rows.{name_start_in}
use Rattle.contact.specs.Pointer.{pointer_of, bad_tilde, clash}
use Rattle.contact.specs.Patch.{Walk, arrives, in_array, no_object, walk, is_in_array, is_no_object}
use Rattle.contact.specs.Faults.{PatchFault, all_kept, broken_by, least_key, least_clash, own_key, walks_to, or_else_fault}
use Rattle.contact.specs.Localize.{key_refusal}
use Rattle.pointers.specs.Pointers.{strip}
use Rattle.patch.specs.declared.conditions.Fault.{Fault}
use Rattle.patch.specs.declared.conditions.Fault.TheVariants.{Tilde, Own, Clash, InArray, NoObject}
use Rattle.patch.specs.Children.{key_at}
use Rattle.patch.specs.Entries.{Listed}
use Rattle.patch.specs.Neighbours.{keys_of, key_order}

-- the key that is listed at i
abbrev pub listed_key : (t table rows : List ℕ) → (i : ℕ) → Name
listed_key t table rows i = key_at t table (get_or rows i 0)

-- ---- what a walk along a pointer leaves

-- where it ended, as a byte
abbrev pub walk_code : Walk → ℕ
walk_code arrives = 0
walk_code in_array = 1
walk_code no_object = 2

-- each of the entries listed from lo up to hi has the byte of its pointer's walk, without its first parts, over the document
abbrev pub Walked : (t table rows walks : List ℕ) (lo hi parts : ℕ) → Doc → Type 0
Walked t table rows walks lo hi parts d =
    (i : ℕ) → lo ≤ i → i < hi → get_or walks i 0 ≡ walk_code (walk (strip parts (pointer_of (listed_key t table rows i))) d)

-- ---- an entry at fault

-- 24, of entries in the order of their pointers: the one at i has a next one, and clashes with it
abbrev pub clashes_next : (t table rows : List ℕ) → (n i : ℕ) → Bool
clashes_next t table rows n i =
    let clashing = clash (pointer_of (listed_key t table rows i)) (pointer_of (listed_key t table rows (i + 1))) in cond (leb n (i + 1)) false clashing

-- is the entry that is listed at i, of the first n, at fault? 22, 23 and 24 ask its key, 25 and 26 its walk
abbrev pub at_fault : Fault → (t table rows : List ℕ) → (n : ℕ) → (walks : List ℕ) → (i : ℕ) → Bool
at_fault Tilde t table rows n walks i = bad_tilde (listed_key t table rows i)
at_fault Own t table rows n walks i = own_key (listed_key t table rows i)
at_fault Clash t table rows n walks i = clashes_next t table rows n i
at_fault InArray t table rows n walks i = eqb (get_or walks i 0) (walk_code in_array)
at_fault NoObject t table rows n walks i = eqb (get_or walks i 0) (walk_code no_object)

-- ---- the smallest key

-- a row, or the best so far if its key stands before the row's
abbrev pub smaller_row : (t table : List ℕ) → (row : ℕ) → (best : Option ℕ) → Option ℕ
smaller_row t table row None = Some row
smaller_row t table row (Some best) = cond (before (key_at t table best) (key_at t table row)) (Some best) (Some row)

-- of the k entries from i on, those at fault: the row whose key is the smallest
unfoldable pub least_row : Fault → (t table rows : List ℕ) → (n : ℕ) → (walks : List ℕ) → (i k : ℕ) → Option ℕ
least_row fault t table rows n walks i zero = None
least_row fault t table rows n walks i (suc k) =
    let later = least_row fault t table rows n walks (i + 1) k in
    cond (at_fault fault t table rows n walks i) (smaller_row t table (get_or rows i 0) later) later

-- ---- the condition

-- the sheet's number of a fault
abbrev pub number_of : Fault → ℕ
number_of Tilde = 22
number_of Own = 23
number_of Clash = 24
number_of InArray = 25
number_of NoObject = 26

-- where the opening quote of a row's name stands
abbrev pub quote_in : (table : List ℕ) → (row : ℕ) → ℕ
quote_in table row = name_start_in table row - 1

-- kept if no row is named; else broken by the row's key
abbrev pub condition_by : (table : List ℕ) → Fault → Option ℕ → Result Unit LocalRefusal
condition_by table fault None = Ok tt
condition_by table fault (Some row) = Err (key_refusal (number_of fault) (quote_in table row))

-- so of the first n entries, for one fault
abbrev pub one_condition : Fault → (t table rows : List ℕ) → (n : ℕ) → (walks : List ℕ) → Result Unit LocalRefusal
one_condition fault t table rows n walks = condition_by table fault (least_row fault t table rows n walks 0 n)

-- ---- in the words of `fault_in`

-- 22, 23 and 24, which ask the keys alone
abbrev pub key_fault : Members → PatchFault
key_fault ms = or_else_fault 22 (least_key bad_tilde ms) (or_else_fault 23 (least_key own_key ms) (or_else_fault 24 (least_clash ms) all_kept))

-- 25 and 26, which ask where the pointers lead in the document
abbrev pub walk_fault : Doc → Members → PatchFault
walk_fault d ms = or_else_fault 25 (least_key (walks_to is_in_array d) ms) (or_else_fault 26 (least_key (walks_to is_no_object d) ms) all_kept)

-- `place` says of each of the first n keys where its opening quote stands
abbrev pub ListedPlaces : (t table rows : List ℕ) (n : ℕ) (place : Name → ℕ) → Type 0
ListedPlaces t table rows n place = (i : ℕ) → i < n → place (listed_key t table rows i) ≡ quote_in table (get_or rows i 0)

-- what is found, as the code says it: the key by its place
abbrev pub condition_of : (place : Name → ℕ) → PatchFault → Result Unit LocalRefusal
condition_of place all_kept = Ok tt
condition_of place (broken_by number key) = Err (key_refusal number (place key))

-- the first of 22, 23 and 24 that the first n entries break, if they are listed in the order of their pointers
abbrev pub FirstKey : (t table rows : List ℕ) (n : ℕ) → Result Unit LocalRefusal → Type 0
FirstKey t table rows n r =
    (place : Name → ℕ) (ms : Members) → Listed t table rows 0 n ms → Sorted key_order (keys_of ms) → ListedPlaces t table rows n place
    → r ≡ condition_of place (key_fault ms)

-- the first of 25 and 26 that they break on a document
abbrev pub FirstAstray : (t table rows : List ℕ) (n : ℕ) (walks : List ℕ) → Result Unit LocalRefusal → Type 0
FirstAstray t table rows n walks r =
    (place : Name → ℕ) (d : Doc) (ms : Members) → Listed t table rows 0 n ms → ListedPlaces t table rows n place → Walked t table rows walks 0 n 0 d
    → r ≡ condition_of place (walk_fault d ms)
