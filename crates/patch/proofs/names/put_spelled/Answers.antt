-- `patch::names::put_spelled` meets its contract: the quote, the bytes that spell themselves, and what is left. Assumes nothing.
use mathlib.Core.Path.{◌≡◌, ap, ◌∙◌}
use Prim.Native.Nat.{ℕ}
use mathlib.Core.List.{List, [], ◌∷◌, ◌++◌}
use native.Mathlib.Omega.{arith}
use Rattle.laws.specs.Lists.{part_of}
use Rattle.json_reader.specs.Cursors.{rest, cursor}
use Rattle.pointers.specs.Parts.{part_left}
use Rattle.pointers.proofs.Laws.Glyphs.{fresh}
use Rattle.patch.specs.Spelled.{spelled_rest}
use Rattle.output.proofs.Bytes.{wrote_then}
use Rattle.patch.proofs.Putting.Spelled.{own_spelled}
use Rattle.patch.proofs.names.put_spelled.Goals as goal

pub returns-then-from-ne0 : goal.returns-then-from-ne0
returns-then-from-ne0 c =
    let a = c.args in
    wrote_then (34 ∷ []) (spelled_rest (part_left (rest a.key.now a.from))) c.put_byte-p.ensures c.put_spelled_rest.ensures

pub returns : goal.returns
returns c =
    let a = c.args in
    let key = a.key.now in
    let own = c.own_end-end in
    let run = c.put_run-q in
    let left = spelled_rest (part_left (rest key (cursor own.result 0 0))) in
    let last = rw c.cursor_at.ensures at c.put_spelled_rest-2.ensures in
    let is : spelled_rest (part_left (rest key a.from)) ≡ part_of key a.from.at own.result ++ left =
    ap (λ (l : List ℕ). spelled_rest (part_left l)) (fresh key a.from (omega arith)) ∙ own_spelled key own.ensures in
    wrote_then (34 ∷ []) (spelled_rest (part_left (rest key a.from))) c.put_byte-p.ensures
    (rw is (wrote_then (part_of key a.from.at own.result) left run.ensures last))

pub put_byte-p-requires : goal.put_byte-p-requires
put_byte-p-requires c = tt

pub put_spelled_rest-requires : goal.put_spelled_rest-requires
put_spelled_rest-requires c = tt

pub own_end-end-requires : goal.own_end-end-requires
own_end-end-requires c = tt

pub put_run-q-requires : goal.put_run-q-requires
put_run-q-requires c = tt

pub cursor_at-requires : goal.cursor_at-requires
cursor_at-requires c = tt

pub put_spelled_rest-requires-2 : goal.put_spelled_rest-requires-2
put_spelled_rest-requires-2 c = tt
