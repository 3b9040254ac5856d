-- What a C function leaves, by `served` (crate contact, specs/Services.antt), and by the vault of crate packing (specs/Services.antt), of which the demands are
-- proved: specs/Called.antt says that services with these contracts meet them. docs/RULES.md, 8.1. Assumes nothing: these are definitions.
use Rattle.std.specs.Prelude.{ℕ, ◌≡◌, List, [], ◌∷◌}
use Rattle.text.specs.Limits.{base}
use Rattle.text.specs.declared.Paper.{Paper}
use Rattle.wire.specs.Promise.{Kept}
use Rattle.packing.specs.Services.{packed_by, unpacked_by}
use Rattle.contact.specs.Services.{Call, served}

-- the three words of an answer: 0 or the refusal's number; the row count or the second number; the bytes written
abbrev pub answer_words : Paper → List ℕ
answer_words p = p.number ∷ p.second ∷ p.written ∷ []

-- the lent answer, table and output after a call; reading and judging are lent no output
pub record Serves (c : Call) (answer table output : List ℕ) : Type 0 where
  pub answered : answer ≡ answer_words (served base c).answer
  pub rows : table ≡ (served base c).table
  pub bytes : output ≡ (served base c).output

-- the lent answer and the words of the state after a call of the reader in pieces
pub record Keeps (k : Kept) (answer words : List ℕ) : Type 0 where
  pub answered : answer ≡ answer_words k.answer
  pub kept : words ≡ k.words

-- the lent answer, table and output after packing a text
pub record Stores (text : List ℕ) (words room : ℕ) (answer table output : List ℕ) : Type 0 where
  pub answered : answer ≡ answer_words (packed_by base text words room).answer
  pub rows : table ≡ (packed_by base text words room).table
  pub bytes : output ≡ (packed_by base text words room).output

-- the lent answer and output after unpacking bytes; no table is lent
pub record Restores (packing : List ℕ) (room : ℕ) (answer output : List ℕ) : Type 0 where
  pub answered : answer ≡ answer_words (unpacked_by base packing room).answer
  pub bytes : output ≡ (unpacked_by base packing room).output
