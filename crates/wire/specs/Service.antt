-- The reader in pieces as a caller sees it: `wired`, on nine words of 32 bits. Assumes nothing: these are definitions.
use Rattle.std.specs.Prelude.{List, ℕ}
use Rattle.text.specs.Limits.{Limits}
use Rattle.text.specs.Sheet.{paper}
use Rattle.text.specs.declared.Paper.{Paper}
use Rattle.wire.specs.Machine.{State, going, over, start, finish, piece}
use Rattle.wire.specs.Held.{state_of, held_of, words_of, held_in}
use Rattle.wire.specs.Promise.{Kept, Wire, go_on_answer}

-- what a state answers
abbrev pub answer_of : State → Paper
answer_of (going at n os spot) = go_on_answer
answer_of (over a) = paper a

-- a state, as it is left to the caller
abbrev pub kept : State → Kept
kept s = record { words = words_of (held_of s); answer = answer_of s }

-- what any words mean
abbrev pub meant : List ℕ → State
meant words = state_of (held_in words)

unfoldable pub wired : Limits → Wire
wired L = record { start = words_of (held_of start); take = λ words q. kept (piece L (meant words) q); end = λ words. kept (finish L (meant words)) }
