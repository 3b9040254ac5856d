-- The three demands, sentence by sentence, of what services answer and leave: `Demands`. `serve` says what each call leaves, `wire` what the reader in pieces
-- does with the words that its caller keeps, `vault` what packing and unpacking leave. proofs/Demands.antt proves them of `served` (specs/Services.antt), of `wired`
-- (crate wire, specs/Service.antt) and of `vaulted` (crate packing, specs/Services.antt) for all limits that refuse repeated names, and for those of docs/RULES.md,
-- 3.1.
--
-- A service is called with whatever bytes, words and lengths there are, and that its code ends is part of its proof. No public function has a
-- `requires`, so nothing is tested beforehand: the contracts give the answer, the table and the output of `served` for every call, and so the
-- demands hold of any services that keep the contracts (crate bezinkol, specs/Called.antt).
-- Assumes nothing: these are definitions.
use Rattle.std.specs.Prelude.{Result, Err}
use Rattle.text.specs.declared.Refusal.{Refusal}
use Rattle.contact.specs.declared.CardRefusal.{CardRefusal}
use Rattle.std.specs.Prelude.{ℕ, ◌*◌, ◌≤◌, ◌<◌, ◌≡◌, true, ◌⊎◌, ◌↔◌, List, [], length}
use Prim.Native.String.{String}
use Rattle.std.proofs.Math.Option.{some}
use Rattle.laws.specs.Lists.{filled}
use Rattle.laws.specs.Order.{before, Earlier}
use Rattle.text.specs.Limits.{Limits, row_words}
use Rattle.text.specs.Text.{Bytes, bytes, Codes}
use Rattle.text.specs.Tree.{Forest, size, tree_rows}
use Rattle.text.specs.Seats.{Head, Seat, top, Sits}
use Rattle.text.specs.Standing.{RowAt}
use Rattle.text.specs.Sheet.{numbers, paper, Within, EndsBy}
use Rattle.text.specs.declared.Paper.{Paper}
use Rattle.text.specs.Utf8.{utf8, Utf8}
use Rattle.text.specs.Whole.{Reads}
use Rattle.text.specs.Doc.{Name, Doc, Members, Property, doc_of, kind_of, token_of, children_of, count_of}
use Rattle.text.specs.Grammar.{JsonText, root_of}
use Rattle.text.specs.Telling.{Tells}
use Rattle.text.specs.Meaning.{Accepts, Readable}
use Rattle.text.specs.Fault.{FirstFault, RowsShort}
use Rattle.text.specs.Promised.{Filled}
use Rattle.text.specs.Writing.{written, spelled, SpelledName}
use Rattle.wire.specs.Measure.{measure}
use Rattle.wire.specs.Promise.{Wire, InPieces}
use Rattle.packing.specs.Services.{Vault}
use Rattle.packing.specs.Promise.{Accepted, written_in, StoresCards, OneVault}
use Rattle.contact.specs.Pointer.{Pointer, pointer_of, find}
use Rattle.contact.specs.PointerText.{PointerText}
use Rattle.contact.specs.Patch.{Entry}
use Rattle.contact.specs.Localize.{start, patched_doc, paper_of_localized}
use Rattle.contact.specs.Signatures.{AsSigned}
use Rattle.contact.specs.Breaches.{Sees}
use Rattle.contact.specs.Judging.{CardText, Offends, Judges}
use Rattle.contact.specs.Places.{KeyStands, key_place}
use Rattle.contact.specs.Conditions.{LooseTilde, HasKey, PointsAt, PatchOf, PatchUnder, LeftOutOf, SecondNumber, BrokenCondition, Applicable, FirstBroken, Smallest}
use Rattle.contact.specs.Entries.{Asked}
use Rattle.contact.specs.Patching.{OrderOnly, PatchedCard, WrittenCard}
use Rattle.contact.specs.Contract.{Localizes}
use Rattle.contact.specs.Services.{Call, read, judge, localize, words_of, room_of, Left, leaves}
use Rattle.contact.specs.declared.LocalRefusal.{LocalRefusal}

-- the call is accepted: its first number is 0
abbrev pub Passes : (Call → Left) → Call → Type 0
Passes serve c = (serve c).answer.number ≡ 0

-- ---- demand 1: every call ends, and leaves nothing else

-- the lines of the sheet that a service refuses by
abbrev pub Lines : Call → ℕ → Type 0
Lines (read text words) n = Within 1 7 n
Lines (judge text words) n = Within 1 7 n ⊎ Within 11 14 n
Lines (localize text language words room) n = Within 1 7 n ⊎ Within 11 14 n ⊎ Within 21 28 n

-- how a call ends: with acceptance, or with one numbered refusal of the sheet; after a refusal all that was lent is zero, after acceptance all that is unused
abbrev pub Ends : Call → Left → Type 0
Ends c = EndsBy (Lines c) (words_of c) (room_of c)

-- demand 1, of every call
pub record EveryCall (L : Limits) (serve : Call → Left) : Type 0 where
  -- whatever is lent, a call ends with acceptance or one numbered refusal; after a refusal all is zero, after acceptance all that is unused
  pub ends : (c : Call) → Ends c (serve c)
  -- for every input, answer, table and output are determined: two outcomes that a contract (`Reads`, `Judges`, `Localizes`) allows are equal
  pub one_reading : (words : ℕ) (t : List ℕ) (a b : Result ℕ Refusal) (x y : List ℕ) → Reads L words t a x → Reads L words t b y → (a ≡ b) × (x ≡ y)
  pub one_judging : (t lent : List ℕ) (a b : Result ℕ CardRefusal) (x y : List ℕ) → Judges L t lent a x → Judges L t lent b y → (a ≡ b) × (x ≡ y)
  pub one_localizing : (words room : ℕ) (t : List ℕ) (lang : Name) (a b : Result (ℕ × ℕ) LocalRefusal) (x y o q : List ℕ)
      → Localizes L words room t lang a x o → Localizes L words room t lang b y q → (a ≡ b) × (x ≡ y) × (o ≡ q)

-- ---- demand 2: reading and judging

-- demand 2, of reading and judging a text
pub record ReadingAndJudging (L : Limits) (serve : Call → Left) : Type 0 where
  -- reading accepts exactly the JSON texts that keep I-JSON's rules, within the limits and given rows enough
  pub accepts : (t : List ℕ) (words : ℕ) → Passes serve (read t words) ↔ ((f : Forest) × Readable L words t f)
  -- it leaves the rows of that text's tree, one for each value
  pub rows : (t : List ℕ) (words : ℕ) (f : Forest) → Readable L words t f
      → serve (read t words) ≡ leaves (numbers 0 (size f) 0) (filled words (tree_rows f)) []
  -- and these describe the text: the tree stands in the table and lies in the text, and each row names that of its parent and that of its next sibling
  -- (`Kinship`, text/specs/Kin.antt)
  pub describe : (t : List ℕ) (words : ℕ) (f : Forest) → Readable L words t f → Filled L t (serve (read t words)).table (size f) f
  -- word by word: the row of each value has its kind, where its name and the value itself start and end, and how many values are below it; the other two
  -- words are told above
  pub each_row : (t : List ℕ) (words : ℕ) (f : Forest) → Readable L words t f → (d : Seat) (h : Head) → Sits top f d h
      → RowAt (serve (read t words)).table d.after h
  -- one row a value: each row is the row of a value, and of no other
  pub each_value : (f : Forest) (k : ℕ) → k < size f → (d : Seat) × (h : Head) × Sits top f d h × (d.after ≡ k)
  pub one_value : (f : Forest) (d e : Seat) (g h : Head) → Sits top f d g → Sits top f e h → d.after ≡ e.after → (d ≡ e) × (g ≡ h)
  -- the document of a text that is read is what it says, white space or not: each token as it is written, each name as it is written and as what it
  -- spells, in its order; a string's content is what it spells
  pub documents : (t : List ℕ) (words : ℕ) (f : Forest) → Readable L words t f → (d : Doc) → Tells t f d ↔ (d ≡ doc_of t f)
  -- and what it calls UTF-8, raw or of names and strings, has the shapes of RFC 3629's table; which code points there are says `Good`
  pub utf8_table : (c : ℕ) → c ≤ 0x10FFFF → Utf8 c (utf8 c)
  -- any other text is refused: by 1 if it is too long
  pub too_long : (t : List ℕ) (words second : ℕ) → ((serve (read t words)).answer ≡ numbers 1 second 0) ↔ ((L.bytes < length t) × (second ≡ 0))
  -- else by 2 to 6 if it has such a fault, by the one of smallest place and then of smallest number
  pub first_fault : (t : List ℕ) → length t ≤ L.bytes → (words n p : ℕ) → Within 2 6 n
      → ((serve (read t words)).answer ≡ numbers n p 0) ↔ FirstFault L t n p
  -- else by 7, with the rows needed
  pub rows_short : (t : List ℕ) (words n : ℕ) → ((serve (read t words)).answer ≡ numbers 7 n 0) ↔ RowsShort L words t n
  -- judging refuses as reading does what reading refuses
  pub unread : (t : List ℕ) (words : ℕ) → ¬ Passes serve (read t words) → serve (judge t words) ≡ serve (read t words)
  -- a card passes exactly when it keeps the listed rules, and its rows are left
  pub passes : (t : List ℕ) (words : ℕ) → Passes serve (judge t words) ↔ ((f : Forest) × CardText L words t f)
  pub card_rows : (t : List ℕ) (words : ℕ) (f : Forest) → CardText L words t f → serve (judge t words) ≡ serve (read t words)
  -- otherwise the first offending place and its rule come back, of any text that is read
  pub offends : (t : List ℕ) (words n p : ℕ) → Passes serve (read t words) → 0 < n
      → ((serve (judge t words)).answer ≡ numbers n p 0) ↔ Offends L words t n p
  -- what the rules see of a value: its kind, its token and its members are what they are called
  pub seen : (v : Doc) → Sees v (kind_of v) (token_of v) (children_of v)
  -- a quoted text, as the fixed spellings are, stands for the codes of its characters
  pub letters : (s : String) → Codes s (bytes s)
  -- what types and properties the rules are about: the table is what the signatures of RFC 9553 say. Which rules between members a type has is data
  -- (Schema.antt), and shown case by case (RuleCases.antt)
  pub signed : AsSigned

-- ---- demand 3: localizing

-- The card that the conditions speak of, whatever the answer is: the card text t, of which f is the tree, as a PatchObject with the members ms leaves
-- it if no key breaks 22 to 26. So 27 and 28 are about the patched card and no other.
pub record WouldBe (L : Limits) (words : ℕ) (t : List ℕ) (f : Forest) (ms : Members) : Type 0 where
  -- From the card without its localizations each entry has its way; a property that no pointer names, enters or covers keeps its value; what is kept
  -- stays at its place, and what is added follows in ascending order of name (`Patched`, specs/Patching.antt).
  pub patched : PatchedCard (doc_of t f) ms (patched_doc (doc_of t f) ms)
  -- its text says it: it is read back so, or refused for its depth alone
  pub writes : WrittenCard L words (patched_doc (doc_of t f) ms)
  -- the text is no longer than t, and has no more values
  pub shorter : length (written (patched_doc (doc_of t f) ms)) ≤ length t
  pub fewer : count_of (patched_doc (doc_of t f) ms) ≤ size f
  -- no white space outside strings: any text that is read, under whatever limits, and says this document is at least as long. So 27 asks for no byte
  -- too many
  pub compact : (M : Limits) (u : List ℕ) (g : Forest) → Accepts M u g → doc_of u g ≡ patched_doc (doc_of t f) ms
      → length (written (patched_doc (doc_of t f) ms)) ≤ length u

-- what an accepted localization of the card text t, of which f is the tree, has left
pub record Localization (L : Limits) (serve : Call → Left) (words room : ℕ) (t : List ℕ) (f : Forest) (lang : Name) : Type 0 where
  -- the PatchObject of the language, and the card as it leaves it
  pub members : Members
  pub patch : PatchOf (doc_of t f) lang members
  pub would_be : WouldBe L words t f members
  -- the text of that card, and its tree
  pub text : List ℕ
  pub writes : text ≡ written (patched_doc (doc_of t f) members)
  pub tree : Forest
  -- it is a card itself, the whole result was judged; and what it says is the patched card
  pub card : CardText L words text tree
  pub says : card.document ≡ patched_doc (doc_of t f) members
  -- the row count, the length, the rows and the bytes are those of the written card
  pub left : serve (localize t lang words room) ≡ leaves (numbers 0 (size tree) (length text)) (filled words (tree_rows tree)) (filled room text)
  -- so the table is the one that reading leaves of that text: parents and siblings are those in the written card
  pub as_read : (serve (localize t lang words room)).table ≡ (serve (read text words)).table

-- u is a JSON text of no more bytes than a text may have, white space as it likes, and says the document d but for the order of the language's entries
pub record Reordering (L : Limits) (lang : Name) (d : Doc) (u : List ℕ) : Type 0 where
  pub derives : JsonText u
  pub document : Doc
  pub says : Tells u (root_of derives) document
  pub order : OrderOnly lang d document
  pub short : length u ≤ L.bytes

-- the line of the sheet names a key
abbrev pub NamesKey : Paper → Type 0
NamesKey p = Within 22 26 p.number

-- answers for the texts t and u, of which f and g are the trees: they are the same, but that of 22 to 26 the key is, and each has the key's place in its
-- own text
pub record SameButPlace (lang : Name) (t : List ℕ) (f : Forest) (u : List ℕ) (g : Forest) (a b : Paper) : Type 0 where
  pub number : a.number ≡ b.number
  pub written : a.written ≡ b.written
  pub second : ¬ NamesKey a → a.second ≡ b.second
  pub key : NamesKey a → (key : Name) × KeyStands t f lang key a.second × KeyStands u g lang key b.second

-- demand 3, of localizing a text
pub record Localizing (L : Limits) (serve : Call → Left) : Type 0 where
  -- the card's own refusal comes first
  pub own : (t : List ℕ) (lang : Name) (words room : ℕ) → ¬ Passes serve (judge t words)
      → (serve (localize t lang words room)).answer ≡ (serve (judge t words)).answer
  -- The entries of the PatchObject in any order, white space aside: of a text that is read and one that differs from it so, both pass or both are
  -- refused by one number;
  pub order_judged : (t u : List ℕ) (lang : Name) (words : ℕ) (f : Forest) → Readable L words t f → Reordering L lang (doc_of t f) u
      → (serve (judge t words)).answer.number ≡ (serve (judge u words)).answer.number
  -- and where the one passes, both have the same number, name the same key, and have the same table and output
  pub any_order : (t u : List ℕ) (lang : Name) (words room : ℕ) (f : Forest) → CardText L words t f → (o : Reordering L lang (doc_of t f) u)
      → SameButPlace lang t f u (root_of o.derives) (serve (localize t lang words room)).answer (serve (localize u lang words room)).answer
      × ((serve (localize t lang words room)).table ≡ (serve (localize u lang words room)).table)
      × ((serve (localize t lang words room)).output ≡ (serve (localize u lang words room)).output)
  -- the same of what the contract allows: where no key is named also the answer itself, with 28's inner place
  pub any_order_allowed : (t u : List ℕ) (lang : Name) (words room : ℕ) (f : Forest) → CardText L words t f → (r : Reordering L lang (doc_of t f) u)
      → (a b : Result (ℕ × ℕ) LocalRefusal) (x y o q : List ℕ) → Localizes L words room t lang a x o → Localizes L words room u lang b y q
      → SameButPlace lang t f u (root_of r.derives) (paper_of_localized a) (paper_of_localized b) × (¬ NamesKey (paper_of_localized a) → a ≡ b)
      × (x ≡ y) × (o ≡ q)
  -- all patches or none: what is accepted is patched by all entries, as the set-or-remove definition says, and is judged as a whole
  pub patched : (t : List ℕ) (lang : Name) (words room : ℕ) (f : Forest) → CardText L words t f → Passes serve (localize t lang words room)
      → Localization L serve words room t f lang
  -- it is accepted exactly when none of the conditions 21 to 28 is broken
  pub accepted : (t : List ℕ) (lang : Name) (words room : ℕ) (f : Forest) → CardText L words t f
      → Passes serve (localize t lang words room) ↔ ((n : ℕ) (r : LocalRefusal) → ¬ BrokenCondition L words room (key_place t f lang) (doc_of t f) lang n r)
  -- and else refused by the broken condition of smallest number, with the sheet's second number
  pub refused : (t : List ℕ) (lang : Name) (words room : ℕ) (f : Forest) → CardText L words t f → (n second : ℕ) → 0 < n
      → ((serve (localize t lang words room)).answer ≡ numbers n second 0)
      ↔ ((r : LocalRefusal) × SecondNumber r second × Smallest (BrokenCondition L words room (key_place t f lang) (doc_of t f) lang) n r)
  -- the same of the answer that the contract allows: it is that refusal itself, with 28's inner place
  pub refused_answer : (t : List ℕ) (lang : Name) (words room : ℕ) (f : Forest) → CardText L words t f → (a : Result (ℕ × ℕ) LocalRefusal) (x o : List ℕ)
      → Localizes L words room t lang a x o → (r : LocalRefusal)
      → (a ≡ Err r) ↔ ((n : ℕ) × Smallest (BrokenCondition L words room (key_place t f lang) (doc_of t f) lang) n r)
  -- a refusal by 22 to 26 names one key: of those that break the condition on the card without its localizations the smallest in byte order; and it has
  -- the place at which that key stands in the text
  pub key_at_fault : (t : List ℕ) (lang : Name) (words room : ℕ) (f : Forest) → CardText L words t f → (n place : ℕ) → Within 22 26 n
      → ((serve (localize t lang words room)).answer ≡ numbers n place 0)
      ↔ ((ms : Members) × (card : Doc) × (key : Name) × PatchOf (doc_of t f) lang ms × LeftOutOf (bytes "localizations") (doc_of t f) card
      × FirstBroken card ms n key × KeyStands t f lang key place)
  -- each key of the PatchObject stands at one place, which is the one that is found
  pub key_places : (t : List ℕ) (lang : Name) (words : ℕ) (f : Forest) → CardText L words t f → (ms : Members) → PatchOf (doc_of t f) lang ms
      → (key : Name) → HasKey key ms → (place : ℕ) → KeyStands t f lang key place ↔ (place ≡ key_place t f lang key)
  -- and no other key stands at that place, so that a place names its key
  pub key_of_place : (t : List ℕ) (lang : Name) (words : ℕ) (f : Forest) → CardText L words t f → (ms : Members) → PatchOf (doc_of t f) lang ms
      → (key other : Name) (place : ℕ) → KeyStands t f lang key place → KeyStands t f lang other place → key ≡ other
  -- the conditions speak of the PatchObject that the card has for the language,
  pub language : (card : Doc) (lang : Name) (ms : Members) → PatchOf card lang ms ↔ PatchUnder lang ms card
  -- and of the pointers that keys write: each key that has no loose `~` writes one, and any other writes none
  pub keys : (key : Name) (p : Pointer) → PointerText key p ↔ ((¬ LooseTilde key) × (p ≡ pointer_of key))
  -- so a PatchObject asks for one list of entries: those that a patched card (`Patched`) is about
  pub asking : (ms : Members) (es fs : List Entry) → Asked ms es → Asked ms fs → es ≡ fs
  -- what a pointer finds, in the card and in the patched one, is the property that it points at: all parts but the last lead through objects
  pub finding : (p : Pointer) (d : Doc) (s : Property) → (find p d ≡ some s) ↔ PointsAt p d s
  -- added members stand in the order of the bytes of their names, a name before those that it begins
  pub byte_order : (n m : Name) → (before n m ≡ true) ↔ Earlier n m
  -- the name of an added member is escaped only where RFC 8259 demands it, by the short escape if there is one, else by \u00 and two small digits
  pub new_names : (n label : List ℕ) → SpelledName n label ↔ (label ≡ spelled n)
  -- 27 and 28, which come up if no key breaks 22 to 26, speak of the patched card
  pub would_be : (t : List ℕ) (lang : Name) (words : ℕ) (f : Forest) → CardText L words t f → (ms : Members) → PatchOf (doc_of t f) lang ms
      → Applicable (start (doc_of t f)) ms → WouldBe L words t f ms
  -- an output as long as the card's text always has room
  pub room_enough : (t : List ℕ) (lang : Name) (words room needed : ℕ) → (serve (localize t lang words room)).answer ≡ numbers 27 needed 0
      → (room < needed) × (needed ≤ length t)
  -- 28 has the number by which judging refuses the text that would be written
  pub judged_again : (t : List ℕ) (lang : Name) (words room : ℕ) (f : Forest) → CardText L words t f → (ms : Members) → PatchOf (doc_of t f) lang ms
      → (number : ℕ) → (serve (localize t lang words room)).answer ≡ numbers 28 number 0
      → (serve (judge (written (patched_doc (doc_of t f) ms)) words)).answer.number ≡ number
  -- and that can be 5 or 11 to 14
  pub inner : (t : List ℕ) (lang : Name) (words room number : ℕ) → (serve (localize t lang words room)).answer ≡ numbers 28 number 0
      → (number ≡ 5) ⊎ Within 11 14 number

-- ---- reading in pieces (02, Req 10): demands 1 and 2 of a reader that keeps no text

pub record ReadingInPieces (L : Limits) (serve : Call → Left) (wire : Wire) : Type 0 where
  -- Its measure (`measure`) is whole reading without 1, 4 and 7: where reading gives none of these it says the same, refusal or number of values; ..
  pub as_read : (t : List ℕ) (words : ℕ) → (a : Paper) → (serve (read t words)).answer ≡ a → (a.number ≡ 1 → ⊥) → (a.number ≡ 4 → ⊥) → (a.number ≡ 7 → ⊥)
      → paper (measure L t) ≡ a
  -- .. where reading gives 7, it accepts as many values as there are rows needed
  pub rows_aside : (t : List ℕ) (words n : ℕ) → (serve (read t words)).answer ≡ numbers 7 n 0 → paper (measure L t) ≡ numbers 0 n 0
  -- what a piece and the end answer, by that measure: crate wire, specs/Promise.antt
  pub in_pieces : InPieces L wire

-- ---- packed cards (02, Req 12): demands 1 and 2 of packing and unpacking

pub record PackingForTheStore (L : Limits) (serve : Call → Left) (vault : Vault) : Type 0 where
  -- what the service reading refuses is refused as it does; ..
  pub unread : (t : List ℕ) (words room : ℕ) → ¬ Passes serve (read t words) → (vault.pack t words room).answer ≡ (serve (read t words)).answer
  -- .. and what it accepts is not refused by its numbers
  pub else_own : (t : List ℕ) (words room : ℕ) → Passes serve (read t words) → Within 1 7 (vault.pack t words room).answer.number → ⊥
  -- what is packed was read: the row count and the table are those which reading leaves
  pub rows : (t : List ℕ) (words room : ℕ) → Accepted (vault.pack t words room)
      → ((serve (read t words)).answer ≡ numbers 0 (vault.pack t words room).answer.second 0) × ((vault.pack t words room).table ≡ (serve (read t words)).table)
  -- what is unpacked is a text that reading accepts, given rows enough, and has as many values as unpacking says
  pub read_back : (p : List ℕ) → Bytes p → (room : ℕ) → Accepted (vault.unpack p room) → (words : ℕ)
      → row_words * (vault.unpack p room).answer.second ≤ words
      → (serve (read (written_in (vault.unpack p room)) words)).answer ≡ numbers 0 (vault.unpack p room).answer.second 0
  -- what the two answer and leave, by the format and by values: crate packing, specs/Promise.antt
  pub stores : StoresCards L vault
  -- and nothing else is left open: any two vaults of which that holds answer and leave the same
  pub one_vault : OneVault L

-- ---- all of them

-- the demands, under the limits L, of services that leave what `serve` says, of a reader in pieces, and of a vault
pub record Demands (L : Limits) (serve : Call → Left) (wire : Wire) (vault : Vault) : Type 0 where
  pub every_call : EveryCall L serve
  pub reading_and_judging : ReadingAndJudging L serve
  pub localizing : Localizing L serve
  pub reading_in_pieces : ReadingInPieces L serve wire
  pub packing_for_the_store : PackingForTheStore L serve vault
