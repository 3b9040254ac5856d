-- `vault::pack::finish` meets its contract. Assumes nothing.
use Rattle.vault.proofs.Finishing.{finished_wide, finished_short, finished_whole}
use Rattle.vault.proofs.pack.finish.Goals as goal

pub returns-then-len-gt-LONGEST : goal.returns-then-len-gt-LONGEST
returns-then-len-gt-LONGEST c = finished_wide (c.fill.ensures.after (λ y e. e)) (c.fill-then-len-gt-LONGEST.ensures.after (λ y e. e)) c.if-len-gt-LONGEST.true

pub returns-then-out-len : goal.returns-then-out-len
returns-then-out-len c = finished_short (c.fill-then-out-len.ensures.after (λ y e. e)) (c.fill-then-out-len-2.ensures.after (λ y e. e)) c.if-len-gt-LONGEST.false c.if-out-len.true

pub returns : goal.returns
returns c = finished_whole c.if-len-gt-LONGEST.false c.if-out-len.false (c.fill-2.ensures.after (λ y e. e))
