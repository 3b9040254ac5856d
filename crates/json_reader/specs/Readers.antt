-- What the readers of a text's parts ask, and what they answer. Assumes nothing: these are definitions.
use Rattle.std.specs.Prelude.{Result, Ok, Err}
use Rattle.std.specs.Prelude.{ℕ, ◌+◌, ◌-◌, ◌*◌, ◌≤◌, ◌<◌, ◌≡◌, List, [], ◌∷◌, ◌⊎◌, Bool, true, cond, eqb, ltb, length, get_or}
use Rattle.std.proofs.lemmas.List.Edits.{sets}
use Rattle.std.proofs.Math.Seq.{slice}
use Rattle.laws.specs.Lists.{RunIn}
use Rattle.laws.specs.Earliest.{Climbs, Earliest, nowhere, found, first_repeat}
use Rattle.text.specs.Limits.{Limits, comparing, row_words, base}
use Rattle.text.specs.Tree.{Bracket, square, curly, Forest, size, row_of, rows_of}
use Rattle.text.specs.Grammar.{closing}
use Rattle.text.specs.Reader.{Read, good, bad, Reader, ItemReader, colon_at, inside_of, value_at, array_at, object_at}
use Rattle.text.specs.declared.Refusal.{Refusal}
use Rattle.text.specs.declared.Refusal.TheVariants.{Repeated}
use Rattle.repeats.specs.Quoted.{tail_at}
use Rattle.repeats.specs.Closed.{loose_item, aside_name, names_aside}
use Rattle.json_reader.specs.Rows.{Word, Row}
use Rattle.json_reader.specs.declared.containers.Container.{Container}
use Rattle.json_reader.specs.declared.containers.Container.TheVariants.{Array, Object}
use Rattle.json_reader.specs.declared.members.ItemStart.{ItemStart}
use Rattle.json_reader.specs.declared.members.ItemStart.TheVariants.{At, Wrong}
use Rattle.json_reader.specs.declared.values.Gathered.{Gathered}

-- ---- the store of names ----

-- the limits of a reading, by the store that it was lent: one without words says that names aren't compared
abbrev pub limits_in : (names : List ℕ) → Limits
limits_in names = comparing (ltb 0 (length names)) base

-- Words enough for the names that stand in the store at once: each has a value of its own, and each takes four bytes of the text or more.
abbrev pub Enough : (bytes words : ℕ) → Type 0
Enough bytes words = (base.values ≤ words) ⊎ (bytes ≤ 4 * words)

-- a store has the first `top` words that it had
abbrev pub KeptBelow : (top : ℕ) (old new : List ℕ) → Type 0
KeptBelow top old new = (j : ℕ) → j < top → get_or new j 0 ≡ get_or old j 0

-- names that were put behind the first `top`: these stand up to `end`
pub record Added (ps : List ℕ) (top : ℕ) (old : List ℕ) (end : ℕ) (new : List ℕ) : Type 0 where
  pub long : length new ≡ length old
  pub under : KeptBelow top old new
  pub from : top ≤ end
  pub room : end ≤ length new
  pub is : slice top end new ≡ ps

-- there is room for one name more behind those up to `end`, unless the store has no words
pub record RoomFor (names : List ℕ) (end : ℕ) : Type 0 where
  pub upto : end ≤ length names
  pub more : 0 < length names → end < length names

-- What is asked of the store before a text is read: it has words enough or none, but no more than a text may have values, and places fit a word.
pub record StoreAsks (t names : List ℕ) : Type 0 where
  pub short : length t < 4294967295
  pub enough : 0 < length names → Enough (length t) (length names)
  pub most : length names ≤ base.values

-- and that the text is within the limit of bytes
abbrev pub TextAsks : (t names : List ℕ) → Type 0
TextAsks t names = StoreAsks t names × (length t ≤ base.bytes)

-- what is asked of a text that is read with a store made for it: its words are enough for the text, some, and no more than it may have values
pub record NamesAsk (t : List ℕ) (words : ℕ) : Type 0 where
  pub short : length t ≤ base.bytes
  pub enough : Enough (length t) words
  pub some : 0 < words
  pub most : words ≤ base.values

-- ---- what is asked of the readers ----

-- What is asked of a reader at a place, with n values before it and the names of the containers around it up to `top`: the place is inside the text or at
-- its end, and the values so far are within the limit; the names stand in the store; each has its own value, but the outermost value has none, and four
-- bytes of the text.
pub record ItemAsks (t names : List ℕ) (top at n : ℕ) : Type 0 where
  pub store : StoreAsks t names
  pub inside : at ≤ length t
  pub few : n ≤ base.values
  pub held : top ≤ length names
  pub fewer : top < n
  pub spread : 4 * top < at

-- a name's places are inside the text or at its end
pub record NamePlaces (t : List ℕ) (ns ne : ℕ) : Type 0 where
  pub starts : ns ≤ length t
  pub ends : ne ≤ length t

-- what is asked of the reader of a value, with a name or none: the name of the value itself may be the last one in the store
pub record ValueAsks (t names : List ℕ) (top ns ne at n : ℕ) : Type 0 where
  pub store : StoreAsks t names
  pub places : NamePlaces t ns ne
  pub inside : at ≤ length t
  pub few : n ≤ base.values
  pub held : top ≤ length names
  pub fewer : top ≤ n
  pub spread : 4 * top ≤ at

-- of that of a container: it has a byte of its own and is a value more
abbrev pub ContainerAsks : (t names : List ℕ) (top ns ne at n : ℕ) → Type 0
ContainerAsks t names top ns ne at n = ItemAsks t names top (at + 1) (n + 1) × NamePlaces t ns ne

-- and of that of one that holds no others: the text is short enough, the place is inside it or at its end, and its row fits
abbrev pub ScalarAsks : (t : List ℕ) (kind ns ne at n : ℕ) → Type 0
ScalarAsks t kind ns ne at n = Word (length t) × (at ≤ length t) × Row n kind ns ne at 0 0 × (n < base.values)

-- the refusal of a value, where there are as many as there may be
abbrev pub Overfull : (t : List ℕ) (depth at : ℕ) → Refusal → Type 0
Overfull t depth at r = (compare : Bool) (ns ne n : ℕ) → base.values ≤ n → value_at (comparing compare base) t depth ns ne at n ≡ bad r

-- ---- values ----

-- R says that values stand from `at` up to `to`, and they are rows n up to `after` of the table, as far as it has room, with `parent` as the row of
-- their parent. One value by itself has no parent and no sibling yet: both are stored once it is known what follows it.
pub record Gone (parent : ℕ) (R : Read) (t : List ℕ) (at n : ℕ) (old new : List ℕ) (to after : ℕ) : Type 0 where
  pub trees : Forest
  pub is : R ≡ good trees to
  pub count : after ≡ n + size trees
  pub table : new ≡ sets old (n * row_words) (rows_of parent n 0 trees)
  pub later : at < to
  pub inside : to ≤ length t
  pub few : after ≤ base.values

-- a reader's answer says what R is; on a refusal the table may hold anything
abbrev pub Took : (parent : ℕ) → Read → (t : List ℕ) (at n : ℕ) (old new : List ℕ) → Result (ℕ × ℕ) Refusal → Type 0
Took parent R t at n old new (Ok (to, after)) = Gone parent R t at n old new to after
Took parent R t at n old new (Err r) = R ≡ bad r

-- the same of the reader of one value that was lent the store, of which it leaves the first `top` names as they were
abbrev pub TookIn : Read → (t : List ℕ) (at n : ℕ) (old new : List ℕ) (top : ℕ) (names names' : List ℕ) → Result (ℕ × ℕ) Refusal → Type 0
TookIn R t at n old new top names names' r = Took 0 R t at n old new r × KeptBelow top names names'

-- what closing a container asks of what was read inside it, as rows after row n
abbrev pub Closable : (n : ℕ) → Result (ℕ × ℕ) Refusal → Type 0
Closable n (Ok (to, after)) = (n < after) × (Word after × Word to)
Closable n (Err r) = Prim.Unit {0}

-- the same, and that the container's own row fits
abbrev pub CloseAsks : (kind ns ne at n : ℕ) → Result (ℕ × ℕ) Refusal → Type 0
CloseAsks kind ns ne at n inside = Closable n inside × Row n kind ns ne at 0 0

-- and what it does: it stores the container's row
abbrev pub Closes : (kind ns ne at n : ℕ) → Result (ℕ × ℕ) Refusal → (old new : List ℕ) → Result (ℕ × ℕ) Refusal → Type 0
Closes kind ns ne at n (Ok (to, after)) old new r =
    (r ≡ Ok (to, after)) × (new ≡ sets old (n * row_words) (row_of kind ns ne at to (after - n - 1) 0 0))
Closes kind ns ne at n (Err x) old new r = r ≡ Err x

-- ---- numbers

-- a byte that a fraction or an exponent begins with: `.`, `e`, `E`
abbrev pub more_by : ℕ → Bool
more_by b = cond (eqb b 46) true (cond (eqb b 101) true (eqb b 69))

-- ---- the two containers

-- the container of a kind: an array, or else an object
abbrev pub container_of : (kind : ℕ) → Container
container_of kind = cond (eqb kind 6) Array Object

-- a container's bracket
abbrev pub bracket_of : Container → Bracket
bracket_of Array = square
bracket_of Object = curly

-- its own definition, from its bracket on
abbrev pub container_at : Container → Limits → List ℕ → (depth : ℕ) → Reader
container_at Array = array_at
container_at Object = object_at

-- that of one item whose name isn't compared with those before it
abbrev pub item_of : Limits → Container → List ℕ → (depth : ℕ) → ItemReader
item_of L of t depth = loose_item L t (value_at L t depth) (bracket_of of)

-- that of all that is inside, from after its bracket to after its closing byte, and the names that it puts aside
abbrev pub items_at : Limits → Container → List ℕ → (depth at n : ℕ) → Read
items_at L of t depth = inside_of t (item_of L of t depth) (closing (bracket_of of))

abbrev pub names_at : Limits → Container → List ℕ → (depth at n : ℕ) → List ℕ
names_at L of t depth = names_aside L t (value_at L t depth) (bracket_of of)

-- what was read, given the earliest name that repeats one: `settle` of the reading, said of the answer
abbrev pub settled : Earliest → Result (ℕ × ℕ) Refusal → Result (ℕ × ℕ) Refusal
settled nowhere read = read
settled (found p) read = Err (Repeated p)

-- what is asked where the names from `top` up to `end` are looked through: they stand in the order of the text, and the text and the store are as the
-- readers were lent them
pub record SettleAsks (t names : List ℕ) (top end : ℕ) : Type 0 where
  pub short : length t < 4294967295
  pub run : RunIn names top end
  pub climbs : Climbs (slice top end names)
  pub most : length names ≤ base.values

-- the answer then; the names below `top` stay
pub record Settles (t : List ℕ) (top : ℕ) (items : Gathered) (names names' : List ℕ) (r : Result (ℕ × ℕ) Refusal) : Type 0 where
  pub is : r ≡ settled (first_repeat (tail_at t 1) (slice top items.end names)) items.read
  pub under : KeptBelow top names names'

-- ---- items ----

-- an item at a place whose name goes behind those up to `end`: its value is at `from`, inside the text or at its end, and so is its name; each name more
-- has four bytes
pub record ItemSpan (t : List ℕ) (end at ns ne from last : ℕ) : Type 0 where
  pub places : NamePlaces t ns ne
  pub later : at ≤ from
  pub inside : from ≤ length t
  pub one : last ≤ end + 1
  pub spread : 4 * last + at ≤ 4 * end + from + 1

abbrev pub ItemIn : List ℕ → (end at : ℕ) → ItemStart → Type 0
ItemIn t end at (At ns ne from last) = ItemSpan t end at ns ne from last
ItemIn t end at (Wrong r last) = Prim.Unit {0}

-- what an item's beginning says of the item
abbrev pub Begun : Container → List ℕ → (at : ℕ) → ItemStart → Type 0
Begun of t at (At ns ne from last) = (L : Limits) (depth n : ℕ) (done : Forest) → item_of L of t depth done at n ≡ value_at L t depth ns ne from n
Begun of t at (Wrong r last) = (L : Limits) (depth n : ℕ) (done : Forest) → item_of L of t depth done at n ≡ bad r

-- where the names end then
abbrev pub last_of : ItemStart → ℕ
last_of (At ns ne from last) = last
last_of (Wrong r last) = last

-- the answer on how an item at a place begins, whose name goes behind those up to `end`
pub record ItemRead (of : Container) (t : List ℕ) (end at : ℕ) (names names' : List ℕ) (r : ItemStart) : Type 0 where
  pub inside : ItemIn t end at r
  pub is : Begun of t at r
  pub added : Added (aside_name (limits_in names) t (bracket_of of) at) end names (last_of r) names'

-- a name's place was put behind those up to `end`, and they end at `last` then; in a store without words it is not
pub record Put (names : List ℕ) (end at : ℕ) (names' : List ℕ) (last : ℕ) : Type 0 where
  pub one : last ≤ end + 1
  pub added : Added (cond (limits_in names).unique (at ∷ []) []) end names last names'

-- what is asked where a name may be put behind those up to `end`: the place is inside the text or at its end and fits a word, and the store has room
pub record NameAsks (t names : List ℕ) (end at : ℕ) : Type 0 where
  pub short : Word (length t)
  pub inside : at ≤ length t
  pub room : RoomFor names end

-- what is told behind a name from `start` on whose token ends at `to`, the last of those up to `end`: the place of the value, or the refusal
pub record Past (t : List ℕ) (start to end ns ne from last : ℕ) : Type 0 where
  pub starts : ns ≡ start
  pub ends : ne ≡ to - 1
  pub later : to < from
  pub inside : from ≤ length t
  pub stays : last ≡ end
  pub is : (value : Reader) (at n : ℕ) → colon_at t value at to n ≡ value (at + 1) ne from n

abbrev pub Coloned : List ℕ → (start to end : ℕ) → ItemStart → Type 0
Coloned t start to end (At ns ne from last) = Past t start to end ns ne from last
Coloned t start to end (Wrong r last) = (last ≡ end) × ((value : Reader) (at n : ℕ) → colon_at t value at to n ≡ bad r)

-- each name has its own value and four bytes, also behind an item
abbrev pub Further : (end : ℕ) → Result (ℕ × ℕ) Refusal → Type 0
Further end (Ok (to, after)) = (end < after) × (4 * end < to)
Further end (Err r) = Prim.Unit {0}

-- the answer on one item, and the name that it put aside
pub record ItemTook (of : Container) (t : List ℕ) (depth end at n : ℕ) (old new names names' : List ℕ) (r : Gathered) : Type 0 where
  pub took : (done : Forest) → Took 0 (item_of (limits_in names) of t depth done at n) t at n old new r.read
  pub further : Further r.end r.read
  pub added : Added (aside_name (limits_in names) t (bracket_of of) at) end names r.end names'

-- the answer on all items of a container, whose row stands before theirs, and the names that they put aside
pub record ItemsTook (of : Container) (t : List ℕ) (depth top from first : ℕ) (old new names names' : List ℕ) (r : Gathered) : Type 0 where
  pub took : Took (first - 1) (items_at (limits_in names) of t depth from first) t from first old new r.read
  pub added : Added (names_at (limits_in names) of t depth from first) top names r.end names'
