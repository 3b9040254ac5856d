-- New names, as they are written while a part of a pointer is read. Assumes nothing: these are definitions.
use Rattle.std.specs.Prelude.{ℕ, List, [], ◌∷◌, ◌++◌}
use Rattle.text.specs.Doc.{Name}
use Rattle.text.specs.Writing.{spelled_bytes}

-- what is left of a new name, as it is written, with its last quote
abbrev pub spelled_rest : Name → List ℕ
spelled_rest n = spelled_bytes n ++ (34 ∷ [])
