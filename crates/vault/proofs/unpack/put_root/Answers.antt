-- `vault::unpack::put_root` meets its contract: one field, and nothing behind it. Assumes nothing.
use Rattle.vault.proofs.Members.{root_torn, root_rest, root_value}
use Rattle.vault.proofs.unpack.put_root.Goals as goal

pub returns-in_err-field : goal.returns-in_err-field
returns-in_err-field c = rw c.from_residual.ensures (root_torn c.args.packed.now 64 c.in_err-field.ensures)

pub returns-then-field-packed : goal.returns-then-field-packed
returns-then-field-packed c = root_rest c.args.packed.now 64 c.in_ok-field.ensures c.if-field-packed.true

pub returns : goal.returns
returns c = rw (root_value c.args.packed.now 64 c.in_ok-field.ensures c.if-field-packed.false) c.put_value.ensures
