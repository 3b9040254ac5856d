-- `vault::unpack::bytes_used` meets its contract: an arm for each answer. Assumes nothing.
use mathlib.Core.Path.{sym, ap}
use Rattle.vault.specs.Unpack.{used_by}
use Rattle.vault.proofs.unpack.bytes_used.Goals as goal

pub returns-in-Ok : goal.returns-in-Ok
returns-in-Ok c = sym (ap used_by c.in-Ok.is)

pub returns-in-Err : goal.returns-in-Err
returns-in-Err c = sym (ap used_by c.in-Err.is)
