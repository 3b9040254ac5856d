-- What the theorems on localizing say of entries and pointers: prefixes, what a pointer names, enters or covers, the entries that a PatchObject asks for,
-- entries in another order.
-- Assumes nothing: these are definitions.
use Rattle.std.specs.Prelude.{ℕ, ◌≡◌, ◌≢◌, true, List, [], ◌∷◌, ◌++◌}
use Rattle.std.proofs.Math.Option.{Option, none, some}
use Rattle.laws.specs.Order.{before}
use Rattle.text.specs.Doc.{Name, Doc, scalar, object, Members, empty, member, Property, property, kind_of}
use Rattle.text.specs.Writing.{spelled}
use Rattle.contact.specs.BetweenMembers.{HasMember}
use Rattle.contact.specs.Pointer.{Pointer, last, down, parts, find}
use Rattle.contact.specs.PointerText.{PointerText}
use Rattle.contact.specs.Patch.{Change, remove, set, Entry, entry, arrives, walk}

-- ---- pointers

-- q's parts begin with p's: whole parts, not bytes
abbrev pub Prefix : Pointer → Pointer → Type 0
Prefix p q = (r : List Name) × (parts q ≡ parts p ++ r)

-- the pointer q names the property at p
abbrev pub Names : Pointer → Pointer → Type 0
Names q p = parts q ≡ parts p

-- it covers it: names one that the property is in
abbrev pub Covers : Pointer → Pointer → Type 0
Covers q p = (n : Name) × (r : List Name) × (parts p ≡ parts q ++ (n ∷ r))

-- it enters it: names one in it
abbrev pub Enters : Pointer → Pointer → Type 0
Enters q p = Covers p q

-- no entry's pointer names, enters or covers p
abbrev pub Clear : Pointer → List Entry → Type 0
Clear p [] = Unit {0}
Clear p (entry q c ∷ es) = (¬ Names q p) × (¬ Enters q p) × (¬ Covers q p) × Clear p es

-- neither is a prefix of the other: as far as they agree both go on, and at some part they differ
abbrev pub Apart : Pointer → Pointer → Type 0
Apart (last n) (last m) = n ≢ m
Apart (last n) (down m q) = n ≢ m
Apart (down n p) (last m) = n ≢ m
Apart (down n p) (down m q) = n ≡ m → Apart p q

-- so with the pointer of each entry
abbrev pub ApartFrom : Pointer → List Entry → Type 0
ApartFrom p [] = Unit {0}
ApartFrom p (entry q c ∷ es) = Apart p q × ApartFrom p es

-- ---- entries

-- what a value of a PatchObject asks of the property that its key names: null removes it, any other value sets it
pub data Asks : Doc → Change → Type 0 where
  removes : {token : List ℕ} → Asks (scalar 1 token) remove
  sets : {v : Doc} → ¬ (kind_of v ≡ 1) → Asks v (set v)

-- the entries of a PatchObject with these members, in their order: each key writes a pointer, each value asks for a change
pub data Asked : Members → List Entry → Type 0 where
  no_key : Asked empty []
  key_alone : {key : Name} {label : List ℕ} {v : Doc} {ms : Members} {p : Pointer} {c : Change} {es : List Entry}
      → PointerText key p → Asks v c → Asked ms es → Asked (member key label v ms) (entry p c ∷ es)

-- no pointer of two entries is a prefix of the other's
abbrev pub NoClash : List Entry → Type 0
NoClash [] = Unit {0}
NoClash (entry p c ∷ es) = ApartFrom p es × NoClash es

-- each walk arrives
abbrev pub ParentsThere : List Entry → Doc → Type 0
ParentsThere [] d = Unit {0}
ParentsThere (entry p c ∷ es) d = (walk p d ≡ arrives) × ParentsThere es d

-- one of the entries is p, with the change c
pub data HasEntry (p : Pointer) (c : Change) : List Entry → Type 0 where
  now : {es : List Entry} → HasEntry p c (entry p c ∷ es)
  past : {e : Entry} {es : List Entry} → HasEntry p c es → HasEntry p c (e ∷ es)

-- the name of the property n after its entry, if it was o: one that was there stays as it is written
abbrev pub label_of : Name → Option Property → List ℕ
label_of n none = spelled n
label_of n (some s) = s.label

-- the property after its entry: removed, or there with the value that is set
abbrev pub valued : Name → Change → Option Property → Option Property
valued n remove o = none
valued n (set v) o = some (property (label_of n o) v)

-- ---- another order

-- the members of an object in another order, each with its name, label and value
pub data Shuffled : Members → Members → Type 0 where
  as_it_is : {ms : Members} → Shuffled ms ms
  keep_first : {n : Name} {label : List ℕ} {d : Doc} {ms ns : Members} → Shuffled ms ns → Shuffled (member n label d ms) (member n label d ns)
  swap_first : {n m : Name} {label l : List ℕ} {d e : Doc} {ms : Members}
      → Shuffled (member n label d (member m l e ms)) (member m l e (member n label d ms))
  and_on : {ms ns ls : Members} → Shuffled ms ns → Shuffled ns ls → Shuffled ms ls

-- ---- ascending byte order of decoded names

-- the name comes before each of these
abbrev pub BeforeAll : Name → Members → Type 0
BeforeAll n empty = Unit {0}
BeforeAll n (member m label d ms) = (before n m ≡ true) × BeforeAll n ms

-- each name comes before those that follow it
abbrev pub Ascending : Members → Type 0
Ascending empty = Unit {0}
Ascending (member n label d ms) = BeforeAll n ms × Ascending ms

-- ---- where members stand

-- added members: none of them was in the object, and each has its shortest spelling
abbrev pub New : Members → Members → Type 0
New all empty = Unit {0}
New all (member n label d ns) = ((e : Doc) → ¬ HasMember all n e) × (label ≡ spelled n) × New all ns

-- The members of an object as they were and as they are: one that stays keeps its place and its name as written, whatever its value; those that
-- were added follow, in ascending order of name. `all` are the members of the object as it was.
pub data Laid (all : Members) : Members → Members → Type 0 where
  stays : {n : Name} {label : List ℕ} {d e : Doc} {ms ns : Members} → Laid all ms ns → Laid all (member n label d ms) (member n label e ns)
  goes : {n : Name} {label : List ℕ} {d : Doc} {ms ns : Members} → Laid all ms ns → Laid all (member n label d ms) ns
  adds : {ns : Members} → Ascending ns → New all ns → Laid all empty ns

-- no entry's pointer names or covers p: what is at p is not replaced as a whole
abbrev pub NotOver : Pointer → List Entry → Type 0
NotOver p [] = Unit {0}
NotOver p (entry q c ∷ es) = (¬ Prefix q p) × NotOver p es

-- the object at p, which had the members ms, has its members so in x
pub record LaidAt (p : Pointer) (label : List ℕ) (ms : Members) (x : Doc) : Type 0 where
  pub members : Members
  pub found : find p x ≡ some (property label (object members))
  pub laid : Laid ms ms members
