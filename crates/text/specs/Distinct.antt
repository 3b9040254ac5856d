-- No two members of one object have one name, at any depth, also inside arrays. Assumes nothing: these are definitions.
use Rattle.std.specs.Prelude.{◌≡◌}
use Rattle.std.proofs.Math.Option.{none}
use Rattle.text.specs.Document.{Doc, scalar, array, object, Members, empty, member, seek}

abbrev mutual
  -- in a document
  pub Distinct : Doc → Type 0
  Distinct (scalar kind token) = Prim.Unit {0}
  Distinct (array ms) = DistinctEntries ms
  Distinct (object ms) = DistinctMembers ms

  -- in the entries of an array, which have no names themselves
  pub DistinctEntries : Members → Type 0
  DistinctEntries empty = Prim.Unit {0}
  DistinctEntries (member n label d ms) = Distinct d × DistinctEntries ms

  -- in the members of an object, each of which has a name that no later one has
  pub DistinctMembers : Members → Type 0
  DistinctMembers empty = Prim.Unit {0}
  DistinctMembers (member n label d ms) = (seek n ms ≡ none) × Distinct d × DistinctMembers ms
