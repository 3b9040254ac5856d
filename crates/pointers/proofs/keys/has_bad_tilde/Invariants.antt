-- `pointers::keys::has_bad_tilde` meets its contract: each turn passes bytes without a `~` and reads one more. Assumes nothing.
use mathlib.Core.Path.{◌≡◌}
use lib.ListN.{length}
use Rattle.json_reader.specs.Cursors.{rest}
use Rattle.text.specs.Strings.{decode}
use Rattle.contact.specs.Pointer.{bad_tilde}
use Rattle.pointers.proofs.keys.has_bad_tilde.Given as goal

abbrev pub invariant-loop-b : goal.invariant-loop-b
invariant-loop-b l = bad_tilde (rest l.key l.c) ≡ bad_tilde (decode l.key)

abbrev pub decreases-loop-b : goal.decreases-loop-b
decreases-loop-b l = length (rest l.key l.c)
