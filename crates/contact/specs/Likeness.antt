-- When two documents are the same but for the order of members: each member of the one is a member of the other, and none is left over (`Corresponds`,
-- text's specs/Sameness.antt).
-- Assumes nothing: these are definitions.
use Rattle.text.specs.Doc.{Doc}
use Rattle.text.specs.Sameness.{counted, free, Corresponds, EqualToken, EqualLabel}

-- the same value, all as written, but that members of objects stand in another order at any depth outside arrays; inside them the order counts, so an
-- array is the same as a whole
abbrev pub Reordered : Doc → Doc → Type 0
Reordered = Corresponds EqualToken EqualLabel counted free
