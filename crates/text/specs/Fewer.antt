-- Limits with another number of values: a table that has fewer rows than a text may have values is filled by a reading that stops earlier.
-- Assumes nothing: these are definitions.
use Rattle.std.specs.Prelude.{ℕ}
use Rattle.text.specs.Limits.{Limits}

-- the same limits, with v values
abbrev pub with_values : Limits → ℕ → Limits
with_values L v = record { bytes = L.bytes; depth = L.depth; values = v; unique = L.unique }
