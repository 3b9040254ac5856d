-- `formats::counts::is_count` meets its contract: digit by digit, after digits of a value that is not too large. Assumes nothing.
use mathlib.Core.Path.{◌≡◌}
use Prim.Native.Nat.{◌≤◌}
use lib.ListN.{drop}
use Rattle.contact.specs.Values.{is_count}
use Rattle.formats.proofs.Laws.Counts.{count_after}
use Rattle.formats.proofs.counts.is_count.Given as goal

abbrev pub invariant-loop-b : goal.invariant-loop-b
invariant-loop-b l =
    (count_after l.low l.high l.value (drop l.b-index l.token) ≡ is_count l.low l.high l.token) × (l.value ≤ 9007199254740991)
