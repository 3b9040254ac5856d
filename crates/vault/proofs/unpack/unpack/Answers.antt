-- `vault::unpack::unpack` meets its contract: what is behind the bytes that are used is cleared. Assumes nothing.
use Rattle.vault.proofs.Restoring.{unpacks}
use Rattle.vault.proofs.unpack.unpack.Goals as goal

pub returns : goal.returns
returns c = unpacks c.restore-answer.ensures c.restore-answer.auto.out c.bytes_used-used.ensures (c.fill.ensures.after (λ y e. e))
