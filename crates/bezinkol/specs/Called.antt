-- From a call of the C functions to the demands: what is shown of services by the contracts of `bezinkol_read`, `bezinkol_judge` and `bezinkol_localize`, of a
-- reader in pieces by those of its three functions, and of a vault by those of `bezinkol_pack` and `bezinkol_unpack`, alone. proofs/Called.antt proves the
-- statements. Nothing is asked of a call: a text or a packing from C is any list of bytes, a table and an output have any length, and the words of a reader in
-- pieces are any. Assumes nothing: these are definitions.
use Rattle.std.specs.Prelude.{◌≡◌, ℕ, List, []}
use Rattle.text.specs.Limits.{base}
use Rattle.text.specs.declared.Paper.{Paper}
use Rattle.wire.specs.Promise.{Kept, Wire}
use Rattle.wire.specs.Service.{wired}
use Rattle.packing.specs.Services.{Vault, packed_by, unpacked_by}
use Rattle.contact.specs.Services.{Call, Left, leaves, served}
use Rattle.contact.specs.Demands.{Demands}
use Rattle.bezinkol.specs.Answer.{answer_words, Serves, Keeps, Stores, Restores}

-- what each call leaves is what the contract of its C function allows
pub record KeepsContracts (serve : Call → Left) (wire : Wire) (vault : Vault) : Type 0 where
  pub serves : (c : Call) → Serves c (answer_words (serve c).answer) (serve c).table (serve c).output
  pub starts : wire.start ≡ (wired base).start
  pub takes : (words piece : List ℕ) → Keeps ((wired base).take words piece) (answer_words (wire.take words piece).answer) (wire.take words piece).words
  pub ends : (words : List ℕ) → Keeps ((wired base).end words) (answer_words (wire.end words).answer) (wire.end words).words
  pub packs : (text : List ℕ) (words room : ℕ)
      → Stores text words room (answer_words (vault.pack text words room).answer) (vault.pack text words room).table (vault.pack text words room).output
  pub unpacks : (packing : List ℕ) (room : ℕ) → Restores packing room (answer_words (vault.unpack packing room).answer) (vault.unpack packing room).output
  -- unpacking is lent no table, so it leaves none
  pub tableless : (packing : List ℕ) (room : ℕ) → (vault.unpack packing room).table ≡ []

-- any services that keep the contracts meet the demands, with the limits of docs/RULES.md, 3.1
abbrev pub Called : Type 0
Called = (serve : Call → Left) (wire : Wire) (vault : Vault) → KeepsContracts serve wire vault → Demands base serve wire vault

-- The same of one call, whatever others leave: it leaves what the definitions say, of which the demands hold (`base_demands`, crate contact). So nothing
-- hangs on calls that C can't make, as of a list with numbers past 255.
abbrev pub EachCall : Type 0
EachCall = (c : Call) (answer : Paper) (table output : List ℕ) → Serves c (answer_words answer) table output → leaves answer table output ≡ served base c

-- the same of one call of packing, and of unpacking
abbrev pub EachStored : Type 0
EachStored = (text : List ℕ) (words room : ℕ) (answer : Paper) (table output : List ℕ) → Stores text words room (answer_words answer) table output
    → leaves answer table output ≡ packed_by base text words room

abbrev pub EachRestored : Type 0
EachRestored = (packing : List ℕ) (room : ℕ) (answer : Paper) (output : List ℕ) → Restores packing room (answer_words answer) output
    → leaves answer [] output ≡ unpacked_by base packing room

-- two outcomes that the contract of a C function allows are equal: the three words, the table and the output
abbrev pub OneOutcome : Type 0
OneOutcome = (c : Call) (a b x y o q : List ℕ) → Serves c a x o → Serves c b y q → (a ≡ b) × (x ≡ y) × (o ≡ q)

-- the same of a call of the reader in pieces: the three words of the answer and the nine of the state
abbrev pub OneKept : Type 0
OneKept = (k : Kept) (a b w v : List ℕ) → Keeps k a w → Keeps k b v → (a ≡ b) × (w ≡ v)

-- the same of a call of packing, and of unpacking
abbrev pub OneStored : Type 0
OneStored = (text : List ℕ) (words room : ℕ) (a b x y o q : List ℕ) → Stores text words room a x o → Stores text words room b y q → (a ≡ b) × (x ≡ y) × (o ≡ q)

abbrev pub OneRestored : Type 0
OneRestored = (packing : List ℕ) (room : ℕ) (a b o q : List ℕ) → Restores packing room a o → Restores packing room b q → (a ≡ b) × (o ≡ q)
