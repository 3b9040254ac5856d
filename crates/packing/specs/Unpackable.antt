-- What packing can write. Assumes nothing: these are definitions.
use Rattle.std.specs.Prelude.{ℕ, ◌≤◌, List}
use Rattle.text.specs.Limits.{Limits}
use Rattle.text.specs.Tree.{Forest}
use Rattle.text.specs.Doc.{Doc, doc_of}
use Rattle.text.specs.Meaning.{Accepts}
use Rattle.packing.specs.Packed.{widest, widest_allowed}
use Rattle.packing.specs.Format.{PackedAs}

-- every content of the document has a length that two bytes can say
abbrev pub Fits : Doc → Type 0
Fits d = widest d ≤ widest_allowed

-- packing can write these bytes: there is a text that reading accepts within the limits, and they pack what it says
pub record Unpackable (L : Limits) (p : List ℕ) : Type 0 where
  pub text : List ℕ
  pub tree : Forest
  pub accepted : Accepts L text tree
  pub packing : PackedAs (doc_of text tree) p
