-- How the entries of a PatchObject change a document: one at a time (`step`), and all at once, as the output is written (`applied`).
-- docs/RULES.md, 6.3, 6.5 and 6.6. Assumes nothing: these are definitions.
use Rattle.std.specs.Prelude.{ℕ, List, [], ◌∷◌, Bool, true, false, cond, ◌||◌, eqb}
use Rattle.std.proofs.Math.Option.{Option, none, some}
use Rattle.text.specs.Text.{bytes}
use Rattle.laws.specs.Order.{same, before}
use Rattle.text.specs.Doc.{Name, Doc, scalar, array, object, Members, empty, member, Property, seek}
use Rattle.text.specs.Writing.{spelled}
use Rattle.contact.specs.Pointer.{Pointer, last, down, pointer_of, bad_tilde, first_part, clash}

-- ---- entries

-- what an entry does with the property that its pointer names
pub data Change : Type 0 where
  remove : Change
  set : Doc → Change

-- a pointer and what it does
pub data Entry : Type 0 where
  entry : Pointer → Change → Entry

-- null removes, another value replaces or adds
abbrev pub change_of : Doc → Change
change_of (scalar kind token) = cond (eqb kind 1) remove (set (scalar kind token))
change_of (array ms) = set (array ms)
change_of (object ms) = set (object ms)

-- the entries of a PatchObject with these members
abbrev pub entries_of : Members → List Entry
entries_of empty = []
entries_of (member key label d ms) = entry (pointer_of key) (change_of d) ∷ entries_of ms

-- ---- the walk along a pointer: a value reached that is an array is 25, one that isn't an object 26, as is an object that lacks a part before the last

-- where the walk ends: at an object with the last part left, at an array (25), or at no object (26)
pub data Walk : Type 0 where
  arrives : Walk
  in_array : Walk
  no_object : Walk

-- on from a member, if it is there
abbrev pub onward : (Doc → Walk) → Option Property → Walk
onward f none = no_object
onward f (some p) = f p.content

-- one part at a time from a value, until the last part is left
abbrev pub walk : Pointer → Doc → Walk
walk (last n) (scalar kind token) = no_object
walk (last n) (array ms) = in_array
walk (last n) (object ms) = arrives
walk (down n p) (scalar kind token) = no_object
walk (down n p) (array ms) = in_array
walk (down n p) (object ms) = onward (walk p) (seek n ms)

-- ---- the tests of 22 to 26, each over all entries of the PatchObject, walks on the untouched card. The answer goes by specs/Faults.antt, which also
-- finds the key; these are for the proofs and the card layer

-- 22: some key has a `~` that neither `0` nor `1` follows
abbrev pub any_bad_key : Members → Bool
any_bad_key empty = false
any_bad_key (member key label d ms) = bad_tilde key || any_bad_key ms

-- 23: some pointer's first part is `localizations`
abbrev pub any_own : List Entry → Bool
any_own [] = false
any_own (entry p c ∷ es) = same (first_part p) (bytes "localizations") || any_own es

-- 24: p and the pointer of one of these entries: one is a prefix of the other
abbrev pub clash_with : Pointer → List Entry → Bool
clash_with p [] = false
clash_with p (entry q c ∷ es) = clash p q || clash_with p es

-- 24: the same of some two of these entries
abbrev pub any_clash : List Entry → Bool
any_clash [] = false
any_clash (entry p c ∷ es) = clash_with p es || any_clash es

-- 25: the walk ended at an array
abbrev pub is_in_array : Walk → Bool
is_in_array arrives = false
is_in_array in_array = true
is_in_array no_object = false

-- 26: the walk ended at no object
abbrev pub is_no_object : Walk → Bool
is_no_object arrives = false
is_no_object in_array = false
is_no_object no_object = true

-- some walk over the card ends so
abbrev pub any_walk : (Walk → Bool) → List Entry → Doc → Bool
any_walk is [] d = false
any_walk is (entry p c ∷ es) d = is (walk p d) || any_walk is es d

-- ---- one entry

-- replaced at its place under its name as written, or added at the end
abbrev pub write : Name → Doc → Members → Members
write n v empty = member n (spelled n) v empty
write n v (member m label d ms) = let more = write n v ms in cond (same m n) (member m label v ms) (member m label d more)

-- the members but those of the name
abbrev pub without : Name → Members → Members
without n empty = empty
without n (member m label d ms) = let rest = without n ms in cond (same m n) rest (member m label d rest)

-- the member n removed or set
abbrev pub put : Name → Change → Members → Members
put n remove ms = without n ms
put n (set v) ms = write n v ms

-- the member n with another value
abbrev pub alter : Name → (Doc → Doc) → Members → Members
alter n f empty = empty
alter n f (member m label d ms) =
    let here = member m label (f d) ms in
    let later = member m label d (alter n f ms) in
    cond (same m n) here later

-- an object with its members changed; another value as it is
abbrev pub in_object : (Members → Members) → Doc → Doc
in_object f (scalar kind token) = scalar kind token
in_object f (array ms) = array ms
in_object f (object ms) = object (f ms)

-- the document after an entry whose walk arrives
abbrev pub changed : Pointer → Change → Doc → Doc
changed (last n) c d = in_object (put n c) d
changed (down n p) c d = in_object (alter n (changed p c)) d

-- a document, if the walk arrived
abbrev pub when_arrived : Walk → Doc → Option Doc
when_arrived arrives d = some d
when_arrived in_array d = none
when_arrived no_object d = none

-- one entry: its walk arrives, and then it has its way; else there is no document
abbrev pub step : Entry → Doc → Option Doc
step (entry p c) d = when_arrived (walk p d) (changed p c d)

-- on from a document, if there is one
abbrev pub run_on : (Doc → Option Doc) → Option Doc → Option Doc
run_on f none = none
run_on f (some d) = f d

-- the entries one at a time, in the order of the list
abbrev pub run : List Entry → Doc → Option Doc
run [] d = some d
run (e ∷ es) d = run_on (run es) (step e d)

-- ---- all entries at once

-- what the entries say of the member n of this object
abbrev pub mine : Name → List Entry → Option Change
mine n [] = none
mine n (entry (last m) c ∷ es) = let more = mine n es in cond (same m n) (some c) more
mine n (entry (down m p) c ∷ es) = mine n es

-- the entries that enter the member n, with that part taken off
abbrev pub under : Name → List Entry → List Entry
under n [] = []
under n (entry (last m) c ∷ es) = under n es
under n (entry (down m p) c ∷ es) = let rest = under n es in cond (same m n) (entry p c ∷ rest) rest

-- a member put before the first whose name it comes before
abbrev pub insert : Name → Doc → Members → Members
insert n v empty = member n (spelled n) v empty
insert n v (member m label d ms) =
    let later = member m label d (insert n v ms) in
    cond (before n m) (member n (spelled n) v (member m label d ms)) later

-- inserted, unless the object has one of the name
abbrev pub fresh : Option Property → Name → Doc → Members → Members
fresh none n v ms = insert n v ms
fresh (some p) n v ms = ms

-- the members that the entries add to the object whose members are ms, in ascending byte order of decoded name
abbrev pub added : Members → List Entry → Members
added ms [] = empty
added ms (entry (last n) remove ∷ es) = added ms es
added ms (entry (last n) (set v) ∷ es) = fresh (seek n ms) n v (added ms es)
added ms (entry (down n p) c ∷ es) = added ms es

-- a kept member: what is said of it, its names, its value if nothing is said of it, and what comes after it
abbrev pub keep : Option Change → Name → List ℕ → Doc → Members → Members
keep none n label d ms = member n label d ms
keep (some remove) n label d ms = ms
keep (some (set v)) n label d ms = member n label v ms

abbrev mutual
  -- the document as all entries leave it: what they keep of each object, and behind it what they add
  pub applied : Doc → List Entry → Doc
  applied (scalar kind token) es = scalar kind token
  applied (array ms) es = array ms
  applied (object ms) es = object (kept ms es (added ms es))

  -- the members ms as the entries leave them, and after them the added ones
  pub kept : Members → List Entry → Members → Members
  kept empty es more = more
  kept (member n label d ms) es more = keep (mine n es) n label (applied d (under n es)) (kept ms es more)
