-- The document of a text and its tree, as it is computed; it is the one that the text tells (specs/Telling.antt). What a document is, and what is
-- asked of one, stands in specs/Document.antt and is passed on from here. Assumes nothing: these are definitions.
use Rattle.std.specs.Prelude.{ℕ, ◌+◌, ◌-◌, List, [], cond, eqb}
use Rattle.laws.specs.Lists.{part_of}
use Rattle.text.specs.Strings.{name_of}
use Rattle.text.specs.Tree.{Bracket, square, curly, Forest, leaf, node}
use Rattle.text.specs.Tree as T
pub use Rattle.text.specs.Document.{Name, Doc, scalar, array, object, Members, empty, member, kind_of, token_of, children_of, Property, property, seek, is_there}
unfoldable pub use Rattle.text.specs.Document.{count_of, count_all}

-- an array or an object of what stands inside it
abbrev pub boxed : Bracket → Members → Doc
boxed square ms = array ms
boxed curly ms = object ms

-- the name as written, quotes included, if its places are ns and ne; nothing, if they are 0
abbrev pub label_at : List ℕ → (ns ne : ℕ) → List ℕ
label_at t ns ne = let label = part_of t (ns - 1) (ne + 1) in cond (eqb ns 0) [] label

-- the values of a tree as members, each with its decoded name and its name as written
unfoldable pub members_of : List ℕ → Forest → Members
members_of t T.none = empty
members_of t (leaf kind ns ne from to rest) = member (name_of t ns ne) (label_at t ns ne) (scalar kind (part_of t from to)) (members_of t rest)
members_of t (node b ns ne from to inside rest) = member (name_of t ns ne) (label_at t ns ne) (boxed b (members_of t inside)) (members_of t rest)

-- the document of the first value of a tree; the tree of a text has just one. (Of no values an empty array, which is never asked.)
unfoldable pub doc_of : List ℕ → Forest → Doc
doc_of t T.none = array empty
doc_of t (leaf kind ns ne from to rest) = scalar kind (part_of t from to)
doc_of t (node b ns ne from to inside rest) = boxed b (members_of t inside)
