-- Packing a text and unpacking bytes as a caller sees them: the answer, the whole table and the whole output. 12: reading's refusals come first, then 51,
-- then 52 with the bytes needed; unpacking's are 53, and then 52. Then the contracts of `pack` and `unpack` (crate vault), `Packs` and `Unpacks`; at the end
-- both as one vault, `vaulted`, of which the promise (specs/Promise.antt) is proved. Assumes nothing: these are definitions.
use Rattle.std.specs.Prelude.{Result, Ok, Err}
use Rattle.packing.specs.declared.UnpackRefusal.{UnpackRefusal}
use Rattle.packing.specs.declared.UnpackRefusal.TheVariants.{NotPacked, TooShort}
use Rattle.std.specs.Prelude.{ℕ, ◌≡◌, List, [], cond, length, ltb}
use Rattle.std.proofs.Math.Option.{Option, none, some}
use Rattle.laws.specs.Lists.{filled}
use Rattle.text.specs.Limits.{Limits}
use Rattle.text.specs.Tree.{Forest, size, tree_rows}
use Rattle.text.specs.Reader.{Read, good, bad}
use Rattle.text.specs.Whole.{whole_of}
use Rattle.text.specs.Sheet.{numbers, refused}
pub use Rattle.text.specs.Sheet.{Left, leaves}
use Rattle.text.specs.Doc.{Doc, doc_of, count_of}
use Rattle.text.specs.Writing.{written}
use Rattle.text.specs.declared.Paper.{Paper}
use Rattle.packing.specs.Packed.{packed, widest, widest_allowed}
use Rattle.packing.specs.Unpacked.{unpacked}
use Rattle.packing.specs.declared.PackRefusal.{PackRefusal}
use Rattle.packing.specs.declared.PackRefusal.TheVariants.{Given, Wide, Short}

-- ---- packing

-- the text's tree and its packing, or a refusal: reading's, 51, or 52 with the bytes needed
pub data Stored : Type 0 where
  stored : Forest → List ℕ → Stored
  unstored : PackRefusal → Stored

-- a text that is read, for an output of so many bytes
unfoldable pub pack_read : (room : ℕ) → List ℕ → Read → Stored
pack_read room t (bad r) = unstored (Given r)
pack_read room t (good f to) =
    let d = doc_of t f in
    let p = packed d in
    let roomy = cond (ltb room (length p)) (unstored (Short (length p))) (stored f p) in
    cond (ltb widest_allowed (widest d)) (unstored Wide) roomy

-- a text, for a table of so many words and an output of so many bytes
unfoldable pub pack_of : Limits → (words room : ℕ) → List ℕ → Stored
pack_of L words room t = pack_read room t (whole_of L words t)

-- the answer: the row count and the bytes written, or the refusal
unfoldable pub answer_of_stored : Stored → Result (ℕ × ℕ) PackRefusal
answer_of_stored (stored f p) = Ok (size f, length p)
answer_of_stored (unstored r) = Err r

-- the refusal on paper
unfoldable pub refused_packing : PackRefusal → Paper
refused_packing (Given r) = refused r
refused_packing Wide = numbers 51 0 0
refused_packing (Short needed) = numbers 52 needed 0

-- the answer on paper: 0, the row count and the bytes written; or the refusal's two numbers
unfoldable pub paper_of_packing : Result (ℕ × ℕ) PackRefusal → Paper
paper_of_packing (Ok (rows, n)) = numbers 0 rows n
paper_of_packing (Err r) = refused_packing r

-- the whole table: the rows and zero after them; after a refusal zero
unfoldable pub table_of_stored : (words : ℕ) → Stored → List ℕ
table_of_stored words (stored f p) = filled words (tree_rows f)
table_of_stored words (unstored r) = filled words []

-- the whole output: the bytes and zero after them; after a refusal zero
unfoldable pub output_of_stored : (room : ℕ) → Stored → List ℕ
output_of_stored room (stored f p) = filled room p
output_of_stored room (unstored r) = filled room []

-- ---- unpacking

-- the number of values and the text, or a refusal: 53, or 52 with the bytes needed
pub data Restored : Type 0 where
  restored : (values : ℕ) → List ℕ → Restored
  not_packed : Restored
  short : (needed : ℕ) → Restored

-- a document, for an output of so many bytes
unfoldable pub unpack_doc : (room : ℕ) → Option Doc → Restored
unpack_doc room none = not_packed
unpack_doc room (some d) = let t = written d in cond (ltb room (length t)) (short (length t)) (restored (count_of d) t)

-- bytes, for an output of so many bytes; no table is lent
unfoldable pub unpack_of : Limits → (room : ℕ) → List ℕ → Restored
unpack_of L room p = unpack_doc room (unpacked L p)

-- the answer: the number of values and the bytes written, or the refusal
unfoldable pub answer_of_restored : Restored → Result (ℕ × ℕ) UnpackRefusal
answer_of_restored (restored values t) = Ok (values, length t)
answer_of_restored not_packed = Err NotPacked
answer_of_restored (short needed) = Err (TooShort needed)

-- the refusal on paper: 53 has no place
abbrev pub refused_unpacking : UnpackRefusal → Paper
refused_unpacking NotPacked = numbers 53 0 0
refused_unpacking (TooShort needed) = numbers 52 needed 0

-- the answer on paper: 0, the number of values and the bytes written; or the refusal's two numbers
unfoldable pub paper_of_unpacking : Result (ℕ × ℕ) UnpackRefusal → Paper
paper_of_unpacking (Ok (values, n)) = numbers 0 values n
paper_of_unpacking (Err r) = refused_unpacking r

-- the whole output: the text and zero after it; after a refusal zero
unfoldable pub output_of_restored : (room : ℕ) → Restored → List ℕ
output_of_restored room (restored values t) = filled room t
output_of_restored room not_packed = filled room []
output_of_restored room (short needed) = filled room []

-- ---- contracts

-- what packing's contract says of an answer, and of what is left in a table of so many words and an output of so many bytes
pub record Packs (L : Limits) (words room : ℕ) (t : List ℕ) (answer : Result (ℕ × ℕ) PackRefusal) (table output : List ℕ) : Type 0 where
  pub answered : answer ≡ answer_of_stored (pack_of L words room t)
  pub left : table ≡ table_of_stored words (pack_of L words room t)
  pub bytes : output ≡ output_of_stored room (pack_of L words room t)

-- what unpacking's contract says of an answer, and of what is left in an output of so many bytes
pub record Unpacks (L : Limits) (room : ℕ) (p : List ℕ) (answer : Result (ℕ × ℕ) UnpackRefusal) (output : List ℕ) : Type 0 where
  pub answered : answer ≡ answer_of_restored (unpack_of L room p)
  pub bytes : output ≡ output_of_restored room (unpack_of L room p)

-- ---- both as a caller sees them

-- a vault: what packing a text leaves in a table of so many words and an output of so many bytes; and what unpacking bytes leaves, which is lent no table
pub record Vault : Type 0 where
  pub pack : (text : List ℕ) → (words room : ℕ) → Left
  pub unpack : (packing : List ℕ) → (room : ℕ) → Left

-- what packing leaves, by these definitions
unfoldable pub packed_by : Limits → (text : List ℕ) → (words room : ℕ) → Left
packed_by L text words room =
    let k = pack_of L words room text in leaves (paper_of_packing (answer_of_stored k)) (table_of_stored words k) (output_of_stored room k)

-- what unpacking leaves
unfoldable pub unpacked_by : Limits → (packing : List ℕ) → (room : ℕ) → Left
unpacked_by L packing room = let k = unpack_of L room packing in leaves (paper_of_unpacking (answer_of_restored k)) [] (output_of_restored room k)

-- the two together
abbrev pub vaulted : Limits → Vault
vaulted L = record { pack = packed_by L; unpack = unpacked_by L }
