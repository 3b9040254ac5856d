-- An object written as the entries of a patch leave it, member by member: what becomes of a member, what an entry adds, and the bytes of each.
-- Assumes nothing: these are definitions.
use Rattle.std.specs.Prelude.{Some, None, Option}
use Rattle.std.specs.Prelude.{ℕ, ◌+◌, ◌≤◌, ◌<◌, ◌≡◌, Bool, true, false, cond, List, [], ◌∷◌, ◌++◌, eqb, length, get_or}
use Rattle.std.proofs.Math.Option.{Option as Maybe, none, some}
use Rattle.laws.specs.Order.{same}
use Rattle.text.specs.Text.{bytes}
use Rattle.text.specs.Tree.{Forest, leaf, node, size}
use Rattle.text.specs.Tree as T
use Rattle.text.specs.Firsts.{name_start, name_end, inside_at, below_at, rest_at}
use Rattle.text.specs.Strings.{name_of}
use Rattle.text.specs.Distinct.{Distinct}
use Rattle.text.specs.Doc.{Name, Doc, object, Members, empty, Property, seek, members_of, label_at, doc_of}
use Rattle.text.specs.Writing.{spelled, written, written_members}
use Rattle.contact.specs.Pointer.{Pointer, last, down, pointer_of, first_part}
use Rattle.contact.specs.Patch.{Change, remove, set, Entry, entry, change_of, walk, without, mine, under, applied, added}
use Rattle.contact.specs.Localize.{start, patched_doc}
use Rattle.pointers.specs.Pointers.{strip}
use Rattle.patch.specs.Entries.{Listed, stripped}
use Rattle.patch.specs.Runs.{InOrder, next_hint}
use Rattle.output.specs.Written.{Wrote}
use Rattle.json_reader.specs.Lookup.{KnownAt}
use Rattle.json_reader.specs.Cursors.{rest, cursor}
use Rattle.patch.specs.Children.{key_bytes}
use Rattle.patch.specs.Tails.{BeginAlike}
use Rattle.patch.specs.Conditions.{walk_code, Walked}
use Rattle.patch.specs.Marks.{met, Around, MetWith, FilledWith, MarkIn, RunCued, ShortKeys, point_at, Waiting, Mark, Marked, Unmet}
use Rattle.patch.specs.Copied.{head_of, label_in}
use Rattle.patch.specs.declared.runs.Run.{Run}
use Rattle.patch.specs.declared.writing.Pen.{Pen}

-- ---- the pen

-- behind a member that was written up to a place
abbrev pub pen_behind : Pen → (to : ℕ) → Pen
pen_behind from to = record { to = to; first = false; hint = from.hint }

-- where it was, with a hint for the member after one whose entries are the run
abbrev pub pen_hinted : Pen → Run → Pen
pen_hinted from own = record { to = from.to; first = from.first; hint = next_hint from.hint own }

-- ---- a run of entries

-- what is asked to write a value as a run leaves it: the run is inside the lists
abbrev pub RunAsks : (rows cues walks : List ℕ) (lo hi : ℕ) → Type 0
RunAsks rows cues walks lo hi = RunCued rows cues lo hi × (hi ≤ length walks)

-- what is asked to settle the entry at a place: the lists have the place, and the entry met no member
abbrev pub EntryAsks : (rows cues walks : List ℕ) (i : ℕ) → Type 0
EntryAsks rows cues walks i = MarkIn rows cues i × (i < length walks) × (get_or cues i 0 < met)

-- the members that are listed by the run; their entries, without the parts that were taken, ascend, and their keys are short
pub record Said (t table rows : List ℕ) (lo hi parts : ℕ) (ms : Members) : Type 0 where
  pub listed : Listed t table rows lo hi ms
  pub ascending : InOrder (stripped parts ms)
  pub short : ShortKeys t

-- ---- the card at its root is taken without its localizations, which stand at the row `leave`

-- a value, which is the card if it is the root
abbrev pub based : (root : Bool) → Doc → Doc
based true d = start d
based false d = d

-- the same of its members
abbrev pub based_all : (root : Bool) → Members → Members
based_all true ms = without (bytes "localizations") ms
based_all false ms = ms

-- is it the member that is left out at the root?
abbrev pub is_out : (root : Bool) → Name → Bool
is_out true n = same n (bytes "localizations")
is_out false n = false

-- a member stands at row m, with so many rows below it: m is the row `leave` if the member is left out, and else `leave` is none of its rows
pub record OutAt (out : Bool) (leave m below : ℕ) : Type 0 where
  pub is : out ≡ eqb m leave
  pub past : m < leave → m + below < leave

-- so it is with each of the values that stand from row m on
abbrev pub LeavesOut : (t : List ℕ) → (leave : ℕ) → (root : Bool) → (m : ℕ) → Forest → Type 0
LeavesOut t leave root m T.none = Prim.Unit {0}
LeavesOut t leave root m (leaf kind ns ne from to rest) = OutAt (is_out root (name_of t ns ne)) leave m 0 × LeavesOut t leave root (m + 1) rest
LeavesOut t leave root m (node b ns ne from to inside rest) =
    OutAt (is_out root (name_of t ns ne)) leave m (size inside) × LeavesOut t leave root (m + 1 + size inside) rest

-- a value stands at a row, and so it is with the members inside it; its names are distinct, and its rows no more than can be marked
pub record BaseAt (t table : List ℕ) (leave row : ℕ) (root : Bool) (g : Forest) : Type 0 where
  pub value : KnownAt table row g
  pub out : LeavesOut t leave root (row + 1) (inside_at g)
  pub distinct : Distinct (doc_of t g)
  pub few : row + 1 + below_at g ≤ met

-- ---- what becomes of a member

-- by what is said of it, and its value if nothing is: left out, or written with a value
abbrev pub kept_by : Maybe Change → Doc → Maybe Doc
kept_by none d = some d
kept_by (some remove) d = none
kept_by (some (set v)) d = some v

-- the member n with the value d in an object for which the entries are
unfoldable pub stays : (root : Bool) → Name → List Entry → Doc → Maybe Doc
stays root n es d =
    let said = kept_by (mine n es) (applied d (under n es)) in
    cond (is_out root n) none said

-- ---- what an entry adds

-- a value is added where no member of its name was found
abbrev pub freshly : Maybe Property → Doc → Maybe Doc
freshly none v = some v
freshly (some p) v = none

-- what an entry adds to an object with these members
abbrev pub adds : Members → Entry → Maybe Doc
adds ms (entry (last n) remove) = none
adds ms (entry (last n) (set v)) = freshly (seek n ms) v
adds ms (entry (down n p) c) = none

-- the pointer of the entry that stands at a row, without its first parts
abbrev pub pointer_in : (t : List ℕ) → (parts : ℕ) → Forest → Pointer
pointer_in t parts g = strip parts (pointer_of (name_of t (name_start g) (name_end g)))

-- the entry itself
abbrev pub entry_of : (t : List ℕ) → (parts : ℕ) → Forest → Entry
entry_of t parts g = entry (pointer_in t parts g) (change_of (doc_of t g))

-- ---- the first entry of a run

-- does a pointer end with its first part?
abbrev pub is_last : Pointer → Bool
is_last (last n) = true
is_last (down n p) = false

-- the same, of what follows a part
abbrev pub is_nothing : Option ℕ → Bool
is_nothing None = true
is_nothing (Some to) = false

-- is there a first entry, and does its pointer end so?
abbrev pub ends_first : List Entry → Bool
ends_first [] = false
ends_first (entry p c ∷ es) = is_last p

-- the test of it: there is one if it ends
pub record Ending (t table rows cues : List ℕ) (lo hi : ℕ) (r : Bool) : Type 0 where
  pub some : r ≡ true → lo < hi
  pub is : (parts : ℕ) (ms : Members) → Said t table rows lo hi parts ms → Waiting t table rows cues lo hi parts → r ≡ ends_first (stripped parts ms)

-- where a walk ends that reaches a value of this kind, which is no object
abbrev pub stray_of : (kind : ℕ) → ℕ
stray_of kind = cond (eqb kind 6) 1 2

-- ---- the bytes of one member

-- the bytes of a member that is written, or none
abbrev pub piece : Maybe Doc → (first : Bool) → (label : List ℕ) → List ℕ
piece none first label = []
piece (some d) first label = head_of 7 first label ++ written d

-- is the next one the first?
abbrev pub since : Maybe Doc → (first : Bool) → Bool
since none first = first
since (some d) first = false

-- ---- contracts

-- one member was written, or none
pub record Passed (old : List ℕ) (from : Pen) (o : Maybe Doc) (label new : List ℕ) (r : Pen) : Type 0 where
  pub wrote : Wrote old from.to (piece o from.first label) new r.to
  pub next : r.first ≡ since o from.first

-- the value of the entry at row e was written as a member, whose name is the part that begins at a place of the entry's key; or it is null
abbrev pub PutAddition : (pt ptable : List ℕ) → (e place : ℕ) → (old : List ℕ) → (from : Pen) → (new : List ℕ) → (r : Pen) → Type 0
PutAddition pt ptable e place old from new r =
    (h : Forest) (d : Doc) → KnownAt ptable e h
    → Passed old from (kept_by (some (change_of (doc_of pt h))) d) (spelled (first_part (pointer_of (rest (key_bytes pt ptable e) (cursor place 0 0))))) new r

-- what becomes of the entry at the place i of the list, if those that met no member add one or are lost: what it adds was written, and where its walk ends is
-- marked
pub record Settled (pt ptable rows cues : List ℕ) (i : ℕ) (walks walks' : List ℕ) (old : List ℕ) (from : Pen) (new : List ℕ) (r : Pen) : Type 0 where
  pub around : Around walks i (i + 1) walks'
  pub is : (t table : List ℕ) (parts : ℕ) (all : Members) (h : Forest) → KnownAt ptable (get_or rows i 0) h
      → Mark t table pt ptable rows cues walks parts all empty i
      → Passed old from (adds all (entry_of pt parts h)) (spelled (first_part (pointer_in pt parts h))) new r
      × (get_or walks' i 0 ≡ walk_code (walk (point_at pt ptable rows parts i) (object all)))

-- the members that the run adds were written, and the closing brace; and where the walks end is marked
pub record PutAdditions (pt ptable rows cues : List ℕ) (lo hi : ℕ) (walks walks' old : List ℕ) (from : Pen) (new : List ℕ) (r : ℕ) : Type 0 where
  pub around : Around walks lo hi walks'
  pub is : (t table : List ℕ) (parts : ℕ) (all ms : Members) → Said pt ptable rows lo hi parts ms
      → Marked t table pt ptable rows cues walks lo hi parts all empty
      → Wrote old from.to (written_members (added all (stripped parts ms)) from.first) new r
      × Walked pt ptable rows walks' lo hi parts (object all)

-- the member at a row was written with the value of the entry at row e, or left out if that is null; the run has met the member, and its walks arrive
pub record PutReplaced (t table : List ℕ) (row : ℕ) (pt ptable : List ℕ) (e lo hi : ℕ) (cues cues' walks walks' old : List ℕ) (from : Pen) (new : List ℕ)
    (r : Pen) : Type 0 where
  pub marked : MetWith cues lo hi row cues'
  pub ended : FilledWith walks lo hi 0 walks'
  pub is : (h : Forest) (d : Doc) → KnownAt ptable e h → Passed old from (kept_by (some (change_of (doc_of pt h))) d) (label_in t table row) new r

-- the marks of the entries outside a run are as they were
abbrev pub Elsewhere : (lo hi : ℕ) → (cues cues' walks walks' : List ℕ) → Type 0
Elsewhere lo hi cues cues' walks walks' = Around cues lo hi cues' × Around walks lo hi walks'

-- each pointer of the run goes on past its first part, which is the name
abbrev pub GoOn : (pt ptable rows : List ℕ) → (lo hi parts : ℕ) → Name → Type 0
GoOn pt ptable rows lo hi parts n = (i : ℕ) → lo ≤ i → i < hi → (q : Pointer) × (point_at pt ptable rows parts i ≡ down n q)

-- the member at a row was written with its value as the run leaves that, one part further; where the walks end is marked, and the run has met the member
pub record PutInside (t table : List ℕ) (row leave : ℕ) (pt ptable rows : List ℕ) (lo hi shared : ℕ) (cues cues' walks walks' old : List ℕ) (from : Pen)
    (new : List ℕ) (r : Pen) : Type 0 where
  pub elsewhere : Elsewhere lo hi cues cues' walks walks'
  pub is : (n : Name) (g : Forest) (ms : Members) (parts : ℕ) → BaseAt t table leave row false g → Said pt ptable rows lo hi (parts + 1) ms
      → BeginAlike pt ptable rows hi shared → Waiting pt ptable rows cues lo hi parts → GoOn pt ptable rows lo hi parts n
      → Passed old from (some (applied (doc_of t g) (stripped (parts + 1) ms))) (label_in t table row) new r
      × Walked pt ptable rows walks' lo hi (parts + 1) (doc_of t g)
      × ((i : ℕ) → lo ≤ i → i < hi → get_or cues' i 0 ≡ met + row)

-- the member at hand was written as the entries leave it, and those that it meets are marked: it is no longer ahead
pub record PutMember (t table : List ℕ) (row leave : ℕ) (pt ptable rows : List ℕ) (lo hi shared : ℕ) (cues cues' walks walks' old : List ℕ) (from : Pen)
    (new : List ℕ) (r : Pen) : Type 0 where
  pub elsewhere : Elsewhere lo hi cues cues' walks walks'
  pub is : (root : Bool) (g : Forest) (ms : Members) (parts : ℕ) (all : Members) → let n = name_of t (name_start g) (name_end g) in
      KnownAt table row g → OutAt (is_out root n) leave row (below_at g) → row + 1 + below_at g ≤ met → Said pt ptable rows lo hi parts ms
      → BeginAlike pt ptable rows hi shared → Unmet all (based_all root (members_of t g))
      → Marked t table pt ptable rows cues walks lo hi parts all (based_all root (members_of t g))
      → Passed old from (stays root n (stripped parts ms) (doc_of t g)) (label_at t (name_start g) (name_end g)) new r
      × Marked t table pt ptable rows cues' walks' lo hi parts all (based_all root (members_of t (rest_at g)))

-- the value at hand was written as the entries leave it, and where their walks end is marked
pub record PutValue (t table : List ℕ) (row leave : ℕ) (pt ptable rows : List ℕ) (lo hi shared : ℕ) (cues cues' walks walks' old : List ℕ) (at : ℕ)
    (new : List ℕ) (r : ℕ) : Type 0 where
  pub elsewhere : Elsewhere lo hi cues cues' walks walks'
  pub is : (root : Bool) (g : Forest) (ms : Members) (parts : ℕ) → BaseAt t table leave row root g → Said pt ptable rows lo hi parts ms
      → BeginAlike pt ptable rows hi shared → Waiting pt ptable rows cues lo hi parts
      → Wrote old at (written (applied (based root (doc_of t g)) (stripped parts ms))) new r
      × Walked pt ptable rows walks' lo hi parts (based root (doc_of t g))

-- the card was written: without its localizations, as the listed entries leave it; and where their walks end is marked
abbrev pub PutCard : (t table : List ℕ) → (leave : ℕ) → (pt ptable rows : List ℕ) → (n shared : ℕ) → (walks' old new : List ℕ) → (r : ℕ) → Type 0
PutCard t table leave pt ptable rows n shared walks' old new r =
    (g : Forest) (ms : Members) → BaseAt t table leave 0 true g → Said pt ptable rows 0 n 0 ms → BeginAlike pt ptable rows n shared
    → Wrote old 0 (written (patched_doc (doc_of t g) ms)) new r × Walked pt ptable rows walks' 0 n 0 (start (doc_of t g))
