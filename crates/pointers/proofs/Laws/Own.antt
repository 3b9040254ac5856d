-- Bytes that are the same in a part and in a name that is written anew:
--     own_on          where one stands it is the first of what is left of the part
--     one-own-end     those from a place on end at one place
-- Assumes nothing.
use Prim.Native.Nat.{ℕ, ◌+◌}
use mathlib.Core.Path.{◌≡◌, ap, ◌∙◌}
use mathlib.Core.Bool.{true}
use mathlib.Core.List.{List, ◌∷◌}
use native.Mathlib.Decide.{dec_le}
use native.Mathlib.Omega.{arith}
use Rattle.text.specs.Text.{byte_at}
use Rattle.json_reader.specs.Cursors.{rest, cursor}
use Rattle.json_reader.specs.Plain.{Own}
use Rattle.pointers.specs.Parts.{part_left, left_at, OwnTo}
use Rattle.pointers.proofs.Laws.Parts.{part_plain}
use Rattle.pointers.proofs.Laws.Glyphs.{rest_byte}

pub own_on : (key : List ℕ) (at : ℕ) → Own (byte_at key at) → left_at true key at ≡ byte_at key at ∷ left_at true key (at + 1)
own_on key at o =
    let small = o.plain.ascii in
    ap part_left (rest_byte key at o.plain.no_slash (λ e. omega arith)) ∙ part_plain (byte_at key at) (rest key (cursor (at + 1) 0 0)) o.no_part o.no_tilde

pub one_own_end : (key : List ℕ) {from r s : ℕ} → OwnTo key from r → OwnTo key from s → r ≡ s
one_own_end key {r = r} {s = s} a b = elim (dec_le s r) [
  | yes le ↦ elim (dec_le r s) [
    | yes ge ↦ omega arith
    | no lt ↦ absurd (b.ends (a.own s b.later (omega arith)))
  ]
  | no lt ↦ absurd (a.ends (b.own r a.later (omega arith)))
]
