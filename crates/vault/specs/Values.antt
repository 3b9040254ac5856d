-- Values that are written as compact text, field by field. Assumes nothing: these are definitions.
use Rattle.std.specs.Prelude.{Some, None, Option}
use Rattle.std.specs.Prelude.{ℕ, ◌≤◌, ◌<◌, ◌≡◌, List, [], ◌∷◌, ◌++◌, Bool}
use Rattle.std.proofs.Math.Option.{Option as Maybe, none, some}
use Rattle.laws.specs.Lists.{part_of}
use Rattle.text.specs.Tree.{Bracket, square, curly}
use Rattle.text.specs.Doc.{Name, Doc, Members}
use Rattle.text.specs.Writing.{comma, written}
use Rattle.output.specs.Written.{Wrote}
use Rattle.packing.specs.Fields.{Cut, cut}
use Rattle.packing.specs.Unpacked.{joined, ValueReader, on_name, on_item}
use Rattle.vault.specs.Laid.{bracket_of}
use Rattle.vault.specs.declared.cuts.Field.{Field}

-- ---- a value that was written

-- there is a document, and its text was written
pub record WroteDoc (o : Maybe Doc) (old : List ℕ) (at : ℕ) (new : List ℕ) (to : ℕ) : Type 0 where
  pub doc : Doc
  pub is : o ≡ some doc
  pub wrote : Wrote old at (written doc) new to

-- what an answer says of a document, if there is one
abbrev pub Went : Maybe Doc → (old : List ℕ) → (at : ℕ) → (new : List ℕ) → Option ℕ → Type 0
Went o old at new (Some to) = WroteDoc o old at new to
Went o old at new None = o ≡ none

-- ---- what stands before a value

-- a reader of one item and of those after it, as a container has them
abbrev pub ItemReader : Type 0
ItemReader = ValueReader → (List ℕ → Maybe Members) → Cut → Maybe Members

-- the item at a place has a name and a value, whatever reads that and the items after it; what stands before the value was written
pub record Lead (item : ItemReader) (head : List ℕ → List ℕ) (p : List ℕ) (at end : ℕ) (old : List ℕ) (to : ℕ) (new : List ℕ) (f : Field) (to' : ℕ) : Type 0 where
  pub name : Name
  pub label : List ℕ
  pub is : (value : ValueReader) (more : List ℕ → Maybe Members)
      → item value more (cut (part_of p at end)) ≡ joined name label (value f.tag (part_of p f.from f.end)) (more (part_of p f.end end))
  pub later : at < f.end
  pub inside : f.from ≤ f.end
  pub within : f.end ≤ end
  pub wrote : Wrote old to (head label) new to'

-- what an answer says of the item at a place: it is none, whatever reads its value and those after it, or as above
abbrev pub Leads : ItemReader → (head : List ℕ → List ℕ) → (p : List ℕ) (at end : ℕ) (old : List ℕ) (to : ℕ) (new : List ℕ) → Option (Field × ℕ) → Type 0
Leads item head p at end old to new (Some (f, to')) = Lead item head p at end old to new f to'
Leads item head p at end old to new None = (value : ValueReader) (more : List ℕ → Maybe Members) → item value more (cut (part_of p at end)) ≡ none

-- a member's name and its colon
abbrev pub colon : List ℕ → List ℕ
colon label = label ++ (0x3A ∷ [])

-- before a member's value stands its name, before an array's nothing
abbrev pub before_value : Bracket → List ℕ → List ℕ
before_value square label = []
before_value curly label = colon label

-- a member's name
abbrev pub LeadsName : (p : List ℕ) (at end : ℕ) (old : List ℕ) (to : ℕ) (new : List ℕ) → Option (Field × ℕ) → Type 0
LeadsName = Leads on_name colon

-- a comma, and in an object a name
abbrev pub LeadsItem : (p : List ℕ) (tag : ℕ) (first : Bool) (at end : ℕ) (old : List ℕ) (to : ℕ) (new : List ℕ) → Option (Field × ℕ) → Type 0
LeadsItem p tag first = Leads (on_item (bracket_of tag)) (λ label. comma first ++ before_value (bracket_of tag) label) p
