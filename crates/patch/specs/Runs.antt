-- Entries in ascending order of which none is a prefix of another, and the place at which a run of them is parted by a name. Assumes nothing: these are definitions.
use Rattle.std.specs.declared.cmp.Ordering.{Ordering}
use Rattle.std.specs.declared.cmp.Ordering.TheVariants.{Less, Equal, Greater}
use Rattle.std.specs.Prelude.{ℕ, ◌+◌, ◌/◌, ◌≤◌, ◌<◌, ◌≡◌, Bool, true, false, cond, List, [], ◌∷◌, leb, ltb}
use Rattle.laws.specs.Order.{order_of}
use Rattle.text.specs.Doc.{Name, Members, empty, member}
use Rattle.contact.specs.Pointer.{Pointer, first_part, clash}
use Rattle.contact.specs.Patch.{Change, Entry, entry}
use Rattle.pointers.specs.Pointers.{pointer_order}
use Rattle.patch.specs.Entries.{Listed, stripped}
use Rattle.patch.specs.Marks.{point_at, Cued}
use Rattle.patch.specs.declared.runs.Run.{Run}

-- ---- ascending entries

-- the pointer stands before that of each of the entries, and is a prefix of none
pub data LeadsAll (p : Pointer) : List Entry → Type 0 where
  leads_none : LeadsAll p []
  leads_more : {q : Pointer} {c : Change} {es : List Entry} → pointer_order p q ≡ Less → clash p q ≡ false → LeadsAll p es
      → LeadsAll p (entry q c ∷ es)

-- each stands before all that follow it
pub data InOrder : List Entry → Type 0 where
  asc_none : InOrder []
  asc_more : {p : Pointer} {c : Change} {es : List Entry} → LeadsAll p es → InOrder es → InOrder (entry p c ∷ es)

-- ---- a run parted by a name

-- by the order of an entry's first part and the name: is the entry before the place? Those of the very name are, if the place is past them
abbrev pub stands_before : (past : Bool) → Ordering → Bool
stands_before past Less = true
stands_before past Equal = past
stands_before past Greater = false

-- the entries stand all on one side of the place: before it, or not before it
pub data Side (past : Bool) (n : Name) (is : Bool) : List Entry → Type 0 where
  side_none : Side past n is []
  side_more : {p : Pointer} {c : Change} {es : List Entry} → stands_before past (order_of (first_part p) n) ≡ is → Side past n is es
      → Side past n is (entry p c ∷ es)

-- all stand before it
abbrev pub AllBefore : (past : Bool) → Name → List Entry → Type 0
AllBefore past n es = Side past n true es

-- none does
abbrev pub NoneBefore : (past : Bool) → Name → List Entry → Type 0
NoneBefore past n es = Side past n false es

-- the members of one and then those of the other
unfoldable pub joined : Members → Members → Members
joined empty ms = ms
joined (member key label d ls) ms = member key label d (joined ls ms)

-- The words lo up to hi of the rows, at which the members ms stand, are parted at r: what is listed before r has a first part, after `parts` parts,
-- before the name (with `past`: before it or the same), what is listed from r on has not.
pub record Parted (t table rows : List ℕ) (lo hi parts : ℕ) (n : Name) (past : Bool) (ms : Members) (r : ℕ) : Type 0 where
  pub left : Members
  pub right : Members
  pub is : ms ≡ joined left right
  pub listed_left : Listed t table rows lo r left
  pub listed_right : Listed t table rows r hi right
  pub all_before : AllBefore past n (stripped parts left)
  pub none_before : NoneBefore past n (stripped parts right)
  -- the same, place by place
  pub passes : (i : ℕ) → lo ≤ i → i < r → stands_before past (order_of (first_part (point_at t table rows parts i)) n) ≡ true
  pub fails : (i : ℕ) → r ≤ i → i < hi → stands_before past (order_of (first_part (point_at t table rows parts i)) n) ≡ false

-- What a search for the place answers: a place between lo and hi, whatever the tables hold, that parts the members listed there if their entries ascend and
-- their cues are right. t and table are the card's, pt and ptable the patch's.
pub record Bound (t table pt ptable rows cues : List ℕ) (lo hi : ℕ) (n : Name) (past : Bool) (r : ℕ) : Type 0 where
  pub low : lo ≤ r
  pub high : r ≤ hi
  pub parted : (parts : ℕ) (ms : Members) → Listed pt ptable rows lo hi ms → InOrder (stripped parts ms) → Cued t table pt ptable rows cues lo hi parts
      → Parted pt ptable rows lo hi parts n past ms r

-- the run of those whose part at hand is the name, inside the run from lo up to hi
pub record RunOf (t table pt ptable rows cues : List ℕ) (lo hi : ℕ) (n : Name) (r : Run) : Type 0 where
  pub from : Bound t table pt ptable rows cues lo hi n false r.lo
  pub to : Bound t table pt ptable rows cues r.lo hi n true r.hi

-- ---- how a run is looked for

-- the next step of a search in a room of places: the same after the hint itself; else all of the room, unless the place is past those of the very name, which
-- is mostly near: then the step doubles, up to half of the room
abbrev pub next_step : (step room : ℕ) → (past hinted : Bool) → ℕ
next_step step room past hinted = cond hinted step (cond past (cond (ltb step (room / 2)) (step + step + 1) step) room)

-- near which place the next member's run may stand: behind this one's, or nowhere if this one stood before its hint
abbrev pub next_hint : (hint : ℕ) → Run → ℕ
next_hint hint run = cond (leb hint run.lo) run.hi 4294967296
