-- What is promised of packing and unpacking (02, Req 12), sentence by sentence: `StoresCards`. It is said of any vault, by what a caller lends and gets back,
-- in the words of the grammar (`Accepts`), of the format by rules (`PackedAs`) and of values (`SameValue`). proofs/Promise.antt proves it of `vaulted`
-- (specs/Services.antt), for all limits that refuse repeated names. t and u are texts, f and g trees, p is any bytes. Assumes nothing: these are definitions.
use Rattle.std.specs.Prelude.{Result}
use Rattle.packing.specs.declared.PackRefusal.{PackRefusal}
use Rattle.packing.specs.declared.UnpackRefusal.{UnpackRefusal}
use Rattle.std.specs.Prelude.{ℕ, ◌+◌, ◌*◌, ◌≤◌, ◌<◌, ◌≡◌, ◌⊎◌, ◌↔◌, List, [], ◌++◌, length, take, replicate}
use Rattle.laws.specs.Lists.{filled}
use Rattle.text.specs.Limits.{Limits, row_words}
use Rattle.text.specs.Text.{Bytes}
use Rattle.text.specs.Tree.{Forest, size, tree_rows}
use Rattle.text.specs.Sheet.{numbers, refused, Left, leaves, Within, EndsBy}
use Rattle.text.specs.Meaning.{Accepts, Readable}
use Rattle.text.specs.Fault.{Unreadable}
use Rattle.text.specs.Doc.{doc_of}
use Rattle.text.specs.Labels.{Every}
use Rattle.text.specs.Writing.{written, SpelledName}
use Rattle.text.specs.declared.Refusal.{Refusal}
use Rattle.packing.specs.Packed.{packed, longest}
use Rattle.packing.specs.Format.{PackedAs}
use Rattle.packing.specs.Values.{SameValue, SpelledToken}
use Rattle.packing.specs.Unpackable.{Fits, Unpackable}
use Rattle.packing.specs.Services.{Packs, Unpacks, Vault}

-- ---- how a call ends

-- the call is accepted: its first number is 0
abbrev pub Accepted : Left → Type 0
Accepted l = l.answer.number ≡ 0

-- what an accepted call has written: so many bytes of the output
abbrev pub written_in : Left → List ℕ
written_in l = take l.answer.written l.output

-- the lines of the sheet that packing refuses by: reading's, 51 and 52
abbrev pub PackLine : ℕ → Type 0
PackLine n = Within 1 7 n ⊎ Within 51 52 n

-- how unpacking ends, which is lent an output of so many bytes and no table
pub data UnpackEnds (room : ℕ) : Left → Type 0 where
  -- with acceptance: a number of values, and the length of what is written; so many bytes stand in the output, and zero behind them
  acceptance : (values : ℕ) (text : List ℕ) (rest : ℕ) → length text + rest ≡ room
      → UnpackEnds room (leaves (record { number = 0; second = values; written = length text }) [] (text ++ replicate rest 0))
  -- or with 52 or 53, and zero alone
  refusal : {number second : ℕ} → Within 52 53 number → UnpackEnds room (leaves (record { number = number; second = second; written = 0 }) [] (replicate room 0))

-- ---- texts and bytes

-- the text t is read, with the tree f, for a table of so many words, and the bytes p pack what it says
pub record Packable (L : Limits) (words : ℕ) (t : List ℕ) (f : Forest) (p : List ℕ) : Type 0 where
  pub readable : Readable L words t f
  pub packing : PackedAs (doc_of t f) p

-- t, of which f is the tree, is the compact text with 01's escapes of the value that the bytes p pack
pub record CompactText (L : Limits) (p t : List ℕ) (f : Forest) : Type 0 where
  -- reading accepts it, and the bytes pack what it says
  pub accepted : Accepts L t f
  pub packing : PackedAs (doc_of t f) p
  -- no white space outside strings
  pub tight : t ≡ written (doc_of t f)
  -- every name and every string is escaped only where RFC 8259 demands it, by the short escape or by \u00 and two small digits
  pub spelling : Every SpelledName SpelledToken (doc_of t f)

-- what unpacking the bytes p gives back of the text t, of which f is the tree, in an output of so many bytes
pub record GivesBack (L : Limits) (vault : Vault) (t : List ℕ) (f : Forest) (p : List ℕ) (room : ℕ) : Type 0 where
  pub text : List ℕ
  pub tree : Forest
  -- the compact text of the same value, which is no longer and has as many values
  pub compact : CompactText L p text tree
  pub same : SameValue (doc_of t f) (doc_of text tree)
  pub shorter : length text ≤ length t
  pub count : size tree ≡ size f
  pub left : vault.unpack p room ≡ leaves (numbers 0 (size tree) (length text)) [] (filled room text)

-- ---- the sentences of the request

pub record StoresCards (L : Limits) (vault : Vault) : Type 0 where
  -- demand 1: whatever is lent, a call ends with acceptance or one numbered refusal; after a refusal all is zero, after acceptance all that is unused
  pub pack_ends : (t : List ℕ) (words room : ℕ) → EndsBy PackLine words room (vault.pack t words room)
  pub unpack_ends : (p : List ℕ) (room : ℕ) → UnpackEnds room (vault.unpack p room)
  -- for every input, answer, table and output are determined: two outcomes that a contract (`Packs`, `Unpacks`) allows are equal
  pub one_packing : (words room : ℕ) (t : List ℕ) (a b : Result (ℕ × ℕ) PackRefusal) (x y o q : List ℕ) → Packs L words room t a x o → Packs L words room t b y q
      → (a ≡ b) × (x ≡ y) × (o ≡ q)
  pub one_unpacking : (room : ℕ) (p : List ℕ) (a b : Result (ℕ × ℕ) UnpackRefusal) (o q : List ℕ) → Unpacks L room p a o → Unpacks L room p b q → (a ≡ b) × (o ≡ q)
  -- Packing: any text that reading accepts is packed, if every content fits (that is, if any bytes pack it) and the output has room; ..
  pub packs : (t : List ℕ) (words room : ℕ)
      → Accepted (vault.pack t words room) ↔ ((f : Forest) × (p : List ℕ) × Packable L words t f p × (length p ≤ room))
  -- .. it leaves the row count and the length, the rows of reading and the bytes that pack the text's document
  pub packing : (t : List ℕ) (words room : ℕ) (f : Forest) (p : List ℕ) → Packable L words t f p → length p ≤ room
      → vault.pack t words room ≡ leaves (numbers 0 (size f) (length p)) (filled words (tree_rows f)) (filled room p)
  -- reading's refusals come first, as reading gives them
  pub unread : (t : List ℕ) (words room : ℕ) (r : Refusal) → ((vault.pack t words room).answer ≡ refused r) ↔ Unreadable L words t r
  -- then 51: some content is over 65,535 bytes
  pub too_wide : (t : List ℕ) (words room second : ℕ) → ((vault.pack t words room).answer ≡ numbers 51 second 0)
      ↔ ((second ≡ 0) × ((f : Forest) × Readable L words t f × (Fits (doc_of t f) → ⊥)))
  -- then 52, with the bytes needed
  pub too_short : (t : List ℕ) (words room n : ℕ) → ((vault.pack t words room).answer ≡ numbers 52 n 0)
      ↔ ((f : Forest) × (p : List ℕ) × Packable L words t f p × (n ≡ length p) × (room < n))
  -- an output of 65,538 bytes always has room
  pub packing_room : (t : List ℕ) (words : ℕ) (f : Forest) (p : List ℕ) → Packable L words t f p → length p ≤ longest
  -- the bytes that the rules allow are there exactly if every content fits, and are those that the definitions compute
  pub by_rules : (t : List ℕ) (f : Forest) → Accepts L t f → (p : List ℕ) → PackedAs (doc_of t f) p ↔ (Fits (doc_of t f) × (p ≡ packed (doc_of t f)))
  -- they are bytes, as those are of which the sentences on unpacking speak
  pub are_bytes : (t : List ℕ) (words room : ℕ) → Bytes (vault.pack t words room).output
  -- No two different values, member order counted and numbers compared as written, share a packing; and equal ones do: of any two calls that are accepted
  pub one_value : (t u : List ℕ) (words room words' room' : ℕ) (f g : Forest) → Readable L words t f → Readable L words' u g
      → Accepted (vault.pack t words room) → Accepted (vault.pack u words' room')
      → (written_in (vault.pack t words room) ≡ written_in (vault.pack u words' room')) ↔ SameValue (doc_of t f) (doc_of u g)
  -- Unpacking: what packing can write is what some call of packing writes
  pub can_write : (p : List ℕ) → Unpackable L p
      ↔ ((t : List ℕ) × (words : ℕ) × (room : ℕ) × Accepted (vault.pack t words room) × (written_in (vault.pack t words room) ≡ p))
  -- it has a compact text with 01's escapes, ..
  pub compact : (p : List ℕ) → Unpackable L p → (t : List ℕ) × (f : Forest) × CompactText L p t f
  -- .. just one, ..
  pub one_text : (p t u : List ℕ) (f g : Forest) → CompactText L p t f → CompactText L p u g → t ≡ u
  -- .. and no text of that value is shorter, whatever the limits that it is read under
  pub shortest : (p t : List ℕ) (f : Forest) → CompactText L p t f → (M : Limits) (u : List ℕ) (g : Forest) → Accepts M u g
      → SameValue (doc_of t f) (doc_of u g) → length t ≤ length u
  -- an output six times as long as the packing always has room for it
  pub text_room : (p t : List ℕ) (f : Forest) → CompactText L p t f → length t ≤ 6 * length p
  -- it is accepted exactly, if the output has room for that text; ..
  pub unpacks : (p : List ℕ) → Bytes p → (room : ℕ)
      → Accepted (vault.unpack p room) ↔ ((t : List ℕ) × (f : Forest) × CompactText L p t f × (length t ≤ room))
  -- .. it leaves the number of values and the length, and the text
  pub unpacking : (p : List ℕ) (room : ℕ) (t : List ℕ) (f : Forest) → CompactText L p t f → length t ≤ room
      → vault.unpack p room ≡ leaves (numbers 0 (size f) (length t)) [] (filled room t)
  -- all else is 53, whatever the output
  pub not_packed_says : (p : List ℕ) → Bytes p → (room second : ℕ)
      → ((vault.unpack p room).answer ≡ numbers 53 second 0) ↔ ((second ≡ 0) × (Unpackable L p → ⊥))
  -- and then 52, with the bytes needed
  pub text_short : (p : List ℕ) → Bytes p → (room n : ℕ) → ((vault.unpack p room).answer ≡ numbers 52 n 0)
      ↔ ((t : List ℕ) × (f : Forest) × CompactText L p t f × (n ≡ length t) × (room < n))
  -- There and back: what was packed unpacks to the compact text of the same value, for which an output as long as the text always has room; ..
  pub gives_back : (t : List ℕ) (words room : ℕ) (f : Forest) → Readable L words t f → Accepted (vault.pack t words room) → (room' : ℕ) → length t ≤ room'
      → GivesBack L vault t f (written_in (vault.pack t words room)) room'
  -- .. and what was unpacked packs to the same bytes, rows and room sufficing
  pub packs_back : (p : List ℕ) → Bytes p → (room : ℕ) → Accepted (vault.unpack p room) → (words room' : ℕ)
      → row_words * (vault.unpack p room).answer.second ≤ words → length p ≤ room'
      → Accepted (vault.pack (written_in (vault.unpack p room)) words room')
      × (written_in (vault.pack (written_in (vault.unpack p room)) words room') ≡ p)

-- The sentences leave nothing open: two vaults of which they hold answer and leave the same, whatever text, bytes and buffers they are given.
abbrev pub OneVault : Limits → Type 0
OneVault L = (v w : Vault) → StoresCards L v → StoresCards L w
    → ((t : List ℕ) (words room : ℕ) → v.pack t words room ≡ w.pack t words room) × ((p : List ℕ) → Bytes p → (room : ℕ) → v.unpack p room ≡ w.unpack p room)
