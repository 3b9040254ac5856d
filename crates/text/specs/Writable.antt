-- Documents that can be written as a text and read again, and what reading gives. Assumes nothing: these are definitions.
use Rattle.std.specs.Prelude.{ℕ, suc, ◌≤◌, ◌<◌, max, ◌≡◌, true, List, [], ◌∷◌, ◌++◌, ◌↔◌, length}
use Rattle.text.specs.Limits.{Limits}
use Rattle.text.specs.Text.{bytes}
use Rattle.text.specs.Tree.{Forest, size}
use Rattle.text.specs.Reader.{Read, good, bad}
use Rattle.text.specs.Whole.{read_of, Refuses}
use Rattle.text.specs.Doc.{Doc, scalar, array, object, Members, empty, member, doc_of, count_of}
use Rattle.text.specs.Distinct.{Distinct}
use Rattle.text.specs.Writing.{written}
use Rattle.text.specs.Spelling.{Spells}
use Rattle.text.specs.Grammar.{Number, JsonText, root_of, depth_of}
use Rattle.text.specs.Fault.{FirstBreak}
use Rattle.text.specs.Labels.{Labelled, Every}
use Rattle.text.specs.declared.Refusal.{Refusal}
use Rattle.text.specs.declared.Refusal.TheVariants.{TooLong, Repeated, Deep, Many}

-- a token of its kind: one of the three words, a number of the grammar, or quotes around what spells
pub data Lexeme : (kind : ℕ) → (token : List ℕ) → Type 0 where
  null : Lexeme 1 (bytes "null")
  falsity : Lexeme 2 (bytes "false")
  truth : Lexeme 3 (bytes "true")
  number : {w : List ℕ} → Number w → Lexeme 4 w
  string : {w codes : List ℕ} → Spells w codes → Lexeme 5 (34 ∷ w ++ (34 ∷ []))

-- a document whose tokens are tokens of their kinds, whose members' labels say their names, and whose entries of arrays have no names
abbrev pub Lexical : Doc → Type 0
Lexical d = Every Labelled Lexeme d

-- the same, and no object in it has two members of one name
pub record Writable (d : Doc) : Type 0 where
  pub labels : Lexical d
  pub distinct : Distinct d

unfoldable mutual
  -- how many arrays and objects stand one inside the other, at the most
  pub depth_in : Doc → ℕ
  depth_in (scalar kind token) = 0
  depth_in (array ms) = suc (depth_all ms)
  depth_in (object ms) = suc (depth_all ms)

  -- in some members
  pub depth_all : Members → ℕ
  depth_all empty = 0
  depth_all (member n label d ms) = max (depth_in d) (depth_all ms)

-- ---- what reading answers of a text that says a document

-- the text t, which says the document d, is within the limits
pub record FitsLimits (L : Limits) (t : List ℕ) (d : Doc) : Type 0 where
  pub short : length t ≤ L.bytes
  pub shallow : depth_in d ≤ L.depth
  pub few : count_of d ≤ L.values
  pub distinct : L.unique ≡ true → Distinct d

-- what it is refused for: 1 and nothing else if it is too long, else 4, 5 or 6, each only if that limit is broken; `first` of `ReadsBack` says at which
-- place
pub data Exceeds (L : Limits) (t : List ℕ) (d : Doc) : Refusal → Type 0 where
  long : L.bytes < length t → Exceeds L t d TooLong
  repeated : {p : ℕ} → length t ≤ L.bytes → L.unique ≡ true → (Distinct d → ⊥) → Exceeds L t d (Repeated p)
  deep : {p : ℕ} → length t ≤ L.bytes → L.depth < depth_in d → Exceeds L t d (Deep p)
  many : {p : ℕ} → length t ≤ L.bytes → L.values < count_of d → Exceeds L t d (Many p)

-- so it is read as the tree f, to its end, or refused for that
pub data AnswerOn (L : Limits) (t : List ℕ) (d : Doc) (f : Forest) : Read → Type 0 where
  read : FitsLimits L t d → AnswerOn L t d f (good f (length t))
  refused : {r : Refusal} → Exceeds L t d r → AnswerOn L t d f (bad r)

-- The text of the document d is one of the grammar, and its tree says d again: as many values, as deep. It is read so exactly if it is within the
-- limits, whatever they are; and if it is not too long, it is refused for the first value of the tree that breaks one.
pub record ReadsBack (L : Limits) (d : Doc) : Type 0 where
  pub derives : JsonText (written d)
  pub says : doc_of (written d) (root_of derives) ≡ d
  pub count : size (root_of derives) ≡ count_of d
  pub depth : depth_of (root_of derives) ≡ depth_in d
  pub answer : AnswerOn L (written d) d (root_of derives) (read_of L (written d))
  pub first : length (written d) ≤ L.bytes → (n p : ℕ) → Refuses L (written d) n p ↔ FirstBreak L (written d) (root_of derives) n p
