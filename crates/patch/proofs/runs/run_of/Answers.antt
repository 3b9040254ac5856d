-- `patch::runs::run_of` meets its contract: the name is the one at the row. Assumes nothing.
use Rattle.patch.proofs.runs.run_of.Goals as goal

pub bound-lo-requires : goal.bound-lo-requires
bound-lo-requires c = c.requires

pub bound-hi-requires : goal.bound-hi-requires
bound-hi-requires c = let p = c.requires in ((c.bound-lo.ensures.high, p.0.1), p.1)

pub returns : goal.returns
returns c =
    let name = c.key_at-name.ensures in
    record { from = rw name at c.bound-lo.ensures; to = rw name at c.bound-hi.ensures }

pub key_at-name-requires : goal.key_at-name-requires
key_at-name-requires c = tt
