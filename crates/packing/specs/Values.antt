-- What packing sees of a document: 12 has "values, member order counted and numbers compared as written"; names and strings count by what they
-- decode to. And the document of the compact text: the same value, with names and strings spelled by 01's escapes. Assumes nothing: these are definitions.
use Rattle.std.specs.Prelude.{ℕ, ◌≡◌, List, [], cond, eqb}
use Rattle.text.specs.Strings.{content_of}
use Rattle.text.specs.Tree.{Bracket, square, curly}
use Rattle.text.specs.Doc.{Name, Doc, scalar, array, object, Members, empty, member}
use Rattle.text.specs.Writing.{spelled, SpelledName}
use Rattle.text.specs.Labels.{Labelled}

-- ---- the same value, by rules

-- two members have the same name, decoded; entries of arrays have none
abbrev pub SameName : Bracket → Name → Name → Type 0
SameName square n m = Prim.Unit {0}
SameName curly n m = n ≡ m

mutual
  -- two documents say the same value
  pub data SameValue : Doc → Doc → Type 0 where
    -- as written: null, false, true and numbers
    as_written : {kind : ℕ} {w : List ℕ} → SameValue (scalar kind w) (scalar kind w)
    -- decoded: strings that say the same UTF-8
    decoded : {content v w : List ℕ} → Labelled content v → Labelled content w → SameValue (scalar 5 v) (scalar 5 w)
    arrays : {ms ns : Members} → SameItems square ms ns → SameValue (array ms) (array ns)
    objects : {ms ns : Members} → SameItems curly ms ns → SameValue (object ms) (object ns)

  -- item by item, in order
  pub data SameItems : Bracket → Members → Members → Type 0 where
    none : {b : Bracket} → SameItems b empty empty
    more : {b : Bracket} {n m : Name} {v w : List ℕ} {d e : Doc} {ms ns : Members} → SameName b n m → SameValue d e → SameItems b ms ns
        → SameItems b (member n v d ms) (member m w e ns)

-- ---- one document for each value

-- a token of the compact text: a string is spelled by 01's escapes, whatever it says; any other is as it is
pub data SpelledToken : (kind : ℕ) → (token : List ℕ) → Type 0 where
  as_is : {kind : ℕ} {token : List ℕ} → (kind ≡ 5 → ⊥) → SpelledToken kind token
  string : {content token : List ℕ} → Labelled content token → SpelledName content token → SpelledToken 5 token

-- a token as it stands in the compact text: a string is spelled anew
abbrev pub plain_token : (kind : ℕ) → List ℕ → List ℕ
plain_token kind token = cond (eqb kind 5) (spelled (content_of token)) token

-- a name as it stands in the compact text
abbrev pub plain_label : Bracket → Name → List ℕ
plain_label square n = []
plain_label curly n = spelled n

unfoldable mutual
  -- the document of the compact text: `written (plain d)` is that text
  pub plain : Doc → Doc
  plain (scalar kind token) = scalar kind (plain_token kind token)
  plain (array ms) = array (plain_items ms square)
  plain (object ms) = object (plain_items ms curly)

  pub plain_items : Members → Bracket → Members
  plain_items empty b = empty
  plain_items (member n label d ms) b = member n (plain_label b n) (plain d) (plain_items ms b)
