-- The place is where the pieces go on. Assumes nothing.
use Rattle.std.proofs.Common.{length, ◌+◌, ◌≡◌}
use Rattle.std.specs.Slice.Iter.{chunks_rest}
use Rattle.cases_run.proofs.feeding.feed.Given as goal

abbrev pub invariant-loop-piece : goal.invariant-loop-piece
invariant-loop-piece l =
    goal.iterator-loop-piece.can_next l.piece-iterator
    × goal.iterator-loop-piece.is_finite l.piece-iterator
    × (l.at + length (chunks_rest l.piece-iterator) ≡ length l.text)
