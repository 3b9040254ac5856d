-- What is marked of the entries of a sorted list while they are walked, by their places i in the list: a cue, and where the walk ends (`Walked`,
-- specs/Conditions.antt). t and table are the card's text and rows, pt and ptable those of the patch.
-- Assumes nothing: these are definitions.
use Rattle.std.specs.Prelude.{ℕ, ◌+◌, ◌-◌, ◌≤◌, ◌<◌, ◌≡◌, true, cond, List, ◌⊎◌, ◌≢◌, ltb, length, get_or}
use Rattle.std.proofs.Math.Option.{none}
use Rattle.laws.specs.Lists.{RunIn}
use Rattle.text.specs.Text.{byte_at}
use Rattle.text.specs.Doc.{Name, object, Members, seek, is_there}
use Rattle.text.specs.Distinct.{DistinctMembers}
use Rattle.json_reader.specs.Cursors.{rest, cursor}
use Rattle.contact.specs.Pointer.{Pointer, down, pointer_of, first_part}
use Rattle.contact.specs.Patch.{walk}
use Rattle.pointers.specs.Pointers.{strip}
use Rattle.pointers.specs.Parts.{longest_escape}
use Rattle.patch.specs.Children.{key_bytes, key_at}
use Rattle.patch.specs.Conditions.{walk_code}
use Rattle.patch.specs.Tails.{BeginAlike}

-- ---- words

-- from here on a cue is a member's row, and below it a place: no card has a key as long as this
abbrev pub met : ℕ
met = 2147483648

-- a place as a cue, or 0 if it is too large for one
pub record PlaceWord (at r : ℕ) : Type 0 where
  pub low : r < met
  pub is : at < met → r ≡ at
  pub none : met ≤ at → r ≡ 0

-- a member's row as a cue
abbrev pub MetWord : (row r : ℕ) → Type 0
MetWord row r = row < met → r ≡ met + row

-- the words but those from lo up to hi are as they were
pub record Around (old : List ℕ) (lo hi : ℕ) (new : List ℕ) : Type 0 where
  pub under : (j : ℕ) → j < lo → get_or new j 0 ≡ get_or old j 0
  pub over : (j : ℕ) → hi ≤ j → get_or new j 0 ≡ get_or old j 0

-- those from lo up to hi are w, and the others as they were
pub record FilledWith (old : List ℕ) (lo hi w : ℕ) (new : List ℕ) : Type 0 where
  pub within : (j : ℕ) → lo ≤ j → j < hi → get_or new j 0 ≡ w
  pub around : Around old lo hi new

-- the same, of a row's cue
pub record MetWith (old : List ℕ) (lo hi row : ℕ) (new : List ℕ) : Type 0 where
  pub word : ℕ
  pub is : MetWord row word
  pub filled : FilledWith old lo hi word new

-- the list of entries and that of cues have the place i, or the places of a run
abbrev pub MarkIn : (rows cues : List ℕ) (i : ℕ) → Type 0
MarkIn rows cues i = (i < length rows) × (i < length cues)

abbrev pub RunCued : (rows cues : List ℕ) (lo hi : ℕ) → Type 0
RunCued rows cues lo hi = RunIn rows lo hi × (hi ≤ length cues)

-- ---- one entry

-- the pointer at a place of the list, without its first parts
abbrev pub point_at : (pt ptable rows : List ℕ) → (parts i : ℕ) → Pointer
point_at pt ptable rows parts i = strip parts (pointer_of (key_at pt ptable (get_or rows i 0)))

-- what is left of its key at a place
abbrev pub left_of : (pt ptable rows : List ℕ) → (i place : ℕ) → Pointer
left_of pt ptable rows i place = pointer_of (rest (key_bytes pt ptable (get_or rows i 0)) (cursor place 0 0))

-- its part at hand, by its cue: what stands in its key, or the name of the member that it met
unfoldable pub part_at : (t table pt ptable rows cues : List ℕ) → (i : ℕ) → Name
part_at t table pt ptable rows cues i =
    let cue = get_or cues i 0 in
    cond (ltb cue met) (first_part (left_of pt ptable rows i cue)) (key_at t table (cue - met))

-- it has met no member of the object at hand: its cue is the place where what is left of its pointer begins
pub record Waits (pt ptable rows cues : List ℕ) (parts i : ℕ) : Type 0 where
  pub low : get_or cues i 0 < met
  pub left : left_of pt ptable rows i (get_or cues i 0) ≡ point_at pt ptable rows parts i

-- it has met one: its cue is the row of a member whose name is its part
pub record Meets (t table pt ptable rows cues : List ℕ) (parts i : ℕ) : Type 0 where
  pub high : met ≤ get_or cues i 0
  pub name : key_at t table (get_or cues i 0 - met) ≡ first_part (point_at pt ptable rows parts i)

-- ---- a run

-- each of the run has met none
abbrev pub Waiting : (pt ptable rows cues : List ℕ) → (lo hi parts : ℕ) → Type 0
Waiting pt ptable rows cues lo hi parts = (i : ℕ) → lo ≤ i → i < hi → Waits pt ptable rows cues parts i

-- the part at hand of each is its first one, after so many parts
abbrev pub Cued : (t table pt ptable rows cues : List ℕ) → (lo hi parts : ℕ) → Type 0
Cued t table pt ptable rows cues lo hi parts =
    (i : ℕ) → lo ≤ i → i < hi → part_at t table pt ptable rows cues i ≡ first_part (point_at pt ptable rows parts i)

-- An object with the members `all` of which `ahead` are still to be met: an entry waits if its part names none of them all, or one that is ahead; else it has
-- met the one that it names, and where its walk ends is marked.
pub data Mark (t table pt ptable rows cues walks : List ℕ) (parts : ℕ) (all ahead : Members) (i : ℕ) : Type 0 where
  waits : Waits pt ptable rows cues parts i
      → (seek (first_part (point_at pt ptable rows parts i)) all ≡ none) ⊎ (is_there (seek (first_part (point_at pt ptable rows parts i)) ahead) ≡ true)
      → Mark t table pt ptable rows cues walks parts all ahead i
  meets : Meets t table pt ptable rows cues parts i → is_there (seek (first_part (point_at pt ptable rows parts i)) all) ≡ true
      → seek (first_part (point_at pt ptable rows parts i)) ahead ≡ none → get_or walks i 0 ≡ walk_code (walk (point_at pt ptable rows parts i) (object all))
      → Mark t table pt ptable rows cues walks parts all ahead i

-- so with each of the run
abbrev pub Marked : (t table pt ptable rows cues walks : List ℕ) → (lo hi parts : ℕ) → (all ahead : Members) → Type 0
Marked t table pt ptable rows cues walks lo hi parts all ahead =
    (i : ℕ) → lo ≤ i → i < hi → Mark t table pt ptable rows cues walks parts all ahead i

-- those ahead are members of them all, and have distinct names
pub record Unmet (all ahead : Members) : Type 0 where
  pub found : (n : Name) → is_there (seek n ahead) ≡ true → seek n all ≡ seek n ahead
  pub distinct : DistinctMembers ahead

-- the keys of the patch are so short that each place in them is a cue
abbrev pub ShortKeys : (pt : List ℕ) → Type 0
ShortKeys pt = length pt + longest_escape < met

-- from a place of a key, where a pointer goes on, to the cue of its next part
abbrev pub NextCue : (key : List ℕ) → (at r : ℕ) → Type 0
NextCue key at r =
    ShortKeys key → (n : Name) (q : Pointer) → pointer_of (rest key (cursor at 0 0)) ≡ down n q
    → (r < met) × (pointer_of (rest key (cursor r 0 0)) ≡ q)

-- the entry at i, if its pointer goes on from one cue, has its next part at another
abbrev pub NextAt : (pt ptable rows : List ℕ) → (i cue next : ℕ) → Type 0
NextAt pt ptable rows i cue next =
    (n : Name) (q : Pointer) → left_of pt ptable rows i cue ≡ down n q → (next < met) × (left_of pt ptable rows i next ≡ q)

-- each of the run whose pointer goes on has gone on to its next part; those outside the run are as they were
pub record Advanced (pt ptable rows : List ℕ) (lo hi : ℕ) (old new : List ℕ) : Type 0 where
  pub on : ShortKeys pt → (i : ℕ) → lo ≤ i → i < hi → NextAt pt ptable rows i (get_or old i 0) (get_or new i 0)
  pub around : Around old lo hi new

-- ---- a run that goes on together

-- the cues from lo up to hi are all this one
abbrev pub AllAt : (cues : List ℕ) → (lo hi cue : ℕ) → Type 0
AllAt cues lo hi cue = (i : ℕ) → lo ≤ i → i < hi → get_or cues i 0 ≡ cue

-- a slash (47) before `most` ends the part at a place of a key, and r is the place behind it
pub record PassesSlash (key : List ℕ) (at most r : ℕ) : Type 0 where
  pub slash : ℕ
  pub is : r ≡ slash + 1
  pub low : r < met
  pub from : at ≤ slash
  pub within : slash < most
  pub here : byte_at key slash ≡ 47
  pub first : (j : ℕ) → at ≤ j → j < slash → byte_at key j ≢ 47

-- the next part of each of the run begins at r, if all keys begin alike up to `shared`; 0 says nothing
abbrev pub SharedStep : (pt ptable rows cues : List ℕ) → (lo hi shared r : ℕ) → Type 0
SharedStep pt ptable rows cues lo hi shared r =
    0 < r → BeginAlike pt ptable rows hi shared → (i : ℕ) → lo ≤ i → i < hi → NextAt pt ptable rows i (get_or cues i 0) r

-- the run has gone on, if all keys begin alike up to `shared`; those outside it are as they were
pub record AdvancedBy (pt ptable rows : List ℕ) (lo hi shared : ℕ) (old new : List ℕ) : Type 0 where
  pub all : BeginAlike pt ptable rows hi shared → Advanced pt ptable rows lo hi old new
  pub around : Around old lo hi new
