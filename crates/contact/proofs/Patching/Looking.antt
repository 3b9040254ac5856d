-- When two documents are the same but for the order of members, by looking (`SameDoc`): every pointer finds nothing in both, or in both a property that
-- is written with the same name and has the same kind and token, or the same entries, or is an object in both. Pointers do not enter arrays, so an array
-- counts as a whole. Of documents with distinct names it is the same as matching members, `Reordered` (Reorder.antt).
-- Assumes nothing.
use Prim.Native.Nat.{ℕ}
use mathlib.Core.Path.{◌≡◌}
use mathlib.Core.List.{List}
use mathlib.Core.Option.{Option, none, some}
use Rattle.text.specs.Doc.{Doc, scalar, array, object, Members, Property}
use Rattle.contact.specs.Pointer.{Pointer, find}
use Rattle.contact.specs.Patch.{Entry, run}

-- a value as a pointer sees it
pub data Shape : Type 0 where
  a_scalar : (kind : ℕ) → (token : List ℕ) → Shape
  an_array : Members → Shape
  an_object : Shape

-- the shape of a value: of an object only that it is one
abbrev pub shape : Doc → Shape
shape (scalar kind token) = a_scalar kind token
shape (array ms) = an_array ms
shape (object ms) = an_object

-- what a pointer finds: nothing, or a property with its name as written and its shape
pub data Look : Type 0 where
  absent : Look
  there : (label : List ℕ) → Shape → Look

-- what is seen of a property, or of none
abbrev pub seen : Option Property → Look
seen none = absent
seen (some s) = there s.label (shape s.content)

-- what the pointer finds in a document
abbrev pub look : Pointer → Doc → Look
look p d = seen (find p d)

-- the same, member order not counted
pub record SameDoc (d e : Doc) : Type 0 where
  pub root : shape d ≡ shape e
  pub below : (p : Pointer) → look p d ≡ look p e

-- the entries es, one at a time from d: each step finds its parent, and the end is e, member order not counted
pub record RunsTo (es : List Entry) (d e : Doc) : Type 0 where
  pub end : Doc
  pub reached : run es d ≡ some end
  pub alike : SameDoc end e
