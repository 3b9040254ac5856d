-- The format by rules: which bytes pack a document. 12: "a one-byte tag, a two-byte length with the high byte first, then content. Tags 1 to 7 are the row
-- kinds; tag 8 is a member name, which comes before its value. Strings and names hold decoded UTF-8, numbers their digits as written, arrays and objects
-- their fields in order; null, false and true are empty." No computation and no decoder is named here; `packed` (specs/Packed.antt) gives just these bytes
-- wherever there are any: field `by_rules` of the promise (specs/Promise.antt). Assumes nothing: these are definitions.
use Rattle.std.specs.Prelude.{ℕ, ◌+◌, ◌*◌, ◌<◌, ◌≡◌, List, [], ◌∷◌, ◌++◌, length}
use Rattle.text.specs.Doc.{Name, Doc, scalar, array, object, Members, empty, member}
use Rattle.text.specs.Labels.{Labelled}

-- a field: its tag, its length in two bytes, the high one first, and its content
pub data Field : (tag : ℕ) → (content bytes : List ℕ) → Type 0 where
  headed : {tag high low : ℕ} {content : List ℕ} → high < 256 → low < 256 → high * 256 + low ≡ length content
      → Field tag content (tag ∷ high ∷ low ∷ content)

mutual
  -- these bytes pack the document; none do if a content in it has a length that two bytes can't say
  pub data PackedAs : Doc → List ℕ → Type 0 where
    null : {w p : List ℕ} → Field 1 [] p → PackedAs (scalar 1 w) p
    falsity : {w p : List ℕ} → Field 2 [] p → PackedAs (scalar 2 w) p
    truth : {w p : List ℕ} → Field 3 [] p → PackedAs (scalar 3 w) p
    -- a number as it is written
    number : {w p : List ℕ} → Field 4 w p → PackedAs (scalar 4 w) p
    -- a string by what it says: the UTF-8 of the code points that it spells between its quotes
    string : {content w p : List ℕ} → Labelled content w → Field 5 content p → PackedAs (scalar 5 w) p
    entries : {ms : Members} {content p : List ℕ} → PackedEntries ms content → Field 6 content p → PackedAs (array ms) p
    members : {ms : Members} {content p : List ℕ} → PackedMembers ms content → Field 7 content p → PackedAs (object ms) p

  -- the entries of an array, one after the other
  pub data PackedEntries : Members → List ℕ → Type 0 where
    no_entry : PackedEntries empty []
    entry : {n : Name} {label v rest : List ℕ} {d : Doc} {ms : Members} → PackedAs d v → PackedEntries ms rest
        → PackedEntries (member n label d ms) (v ++ rest)

  -- the members of an object, one after the other: before each value its name, which is decoded UTF-8
  pub data PackedMembers : Members → List ℕ → Type 0 where
    no_member : PackedMembers empty []
    named : {n : Name} {label name v rest : List ℕ} {d : Doc} {ms : Members} → Labelled n label → Field 8 n name → PackedAs d v → PackedMembers ms rest
        → PackedMembers (member n label d ms) (name ++ (v ++ rest))
