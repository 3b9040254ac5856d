-- What the contracts say of a count, of a line that is cut in two, and of a text that is put together. Assumes nothing: these are definitions.
use Rattle.std.specs.Prelude.{◌≡◌, ℕ, ◌+◌, ◌≤◌, List, length, take, drop}
use Rattle.cases_run.specs.declared.lines.Text.{Text}

-- `&xs[..n]` is in bounds, and has n elements
abbrev pub IsPrefixLen : ℕ → List ℕ → Type 0
IsPrefixLen n xs = (n ≤ length xs) × (n ≡ length (take n xs))

-- a line is cut into what stands before a byte and what stands after it; where nothing stands after it, that byte may be missing too
abbrev pub IsCut : (line head rest : List ℕ) → Type 0
IsCut line head rest =
    (head ≡ take (length head) line)
    × IsPrefixLen (length head) line
    × (rest ≡ drop (length head + 1) line)

-- a text fits into its buffer
abbrev pub Fits : Text → Type 0
Fits t = t.len ≤ length t.buffer.now

-- a text keeps its buffer
abbrev pub Keeps : (old new : Text) → Type 0
Keeps old new = new.buffer.ghost_name ≡ old.buffer.ghost_name
