-- What reading promises of an accepted text: of the text and its tree (`Promised`), and of the table too (`Filled`). The code above reading relies on
-- this and on what is promised of a refusal, all through one file, proofs/Promise.antt. Assumes nothing: these are definitions.
use Rattle.std.specs.Prelude.{ℕ, ◌≤◌, ◌≡◌, List, true, length}
use Rattle.text.specs.Limits.{Limits}
use Rattle.text.specs.Tree.{square, Forest, none, size}
use Rattle.text.specs.Standing.{StandsTo}
use Rattle.text.specs.Kin.{Kinship}
use Rattle.text.specs.Firsts.{HasFirst, rest_at}
use Rattle.text.specs.Placed.{Placed}
use Rattle.text.specs.Doc.{doc_of}
use Rattle.text.specs.Distinct.{Distinct}

-- a text and its tree: one value, which stands in the text as an element does, in no more bytes and values than the limits allow
pub record Promised (L : Limits) (t : List ℕ) (f : Forest) : Type 0 where
  pub some : HasFirst f
  pub alone : rest_at f ≡ none
  pub placed : Placed t square f 0 (length t)
  pub distinct : L.unique ≡ true → Distinct (doc_of t f)
  pub short : length t ≤ L.bytes
  pub few : size f ≤ L.values

-- the same, and the rows of the tree are those of the table, n of them, and name each other as its values stand
pub record Filled (L : Limits) (t table : List ℕ) (n : ℕ) (f : Forest) : Type 0 where
  pub promised : Promised L t f
  pub stands : StandsTo table 0 n f
  pub kin : Kinship table f
