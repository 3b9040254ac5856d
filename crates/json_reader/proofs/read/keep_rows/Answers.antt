-- `json_reader::read::keep_rows` meets its contract: after a refusal the table is cleared. Assumes nothing.
use Rattle.std.specs.Prelude.{Result, Ok, Err, is_err}
use Prim.Native.Nat.{ℕ}
use mathlib.Core.Path.{◌≡◌, sym, ◌∙◌}
use mathlib.Core.Bool.{true, false, true≢false}
use mathlib.Core.List.{List}
use lib.ListN.{length, replicate}
use Rattle.text.specs.Limits.{Limits}
use Rattle.text.specs.Whole.{whole_of}
use Rattle.text.specs.declared.Refusal.{Refusal}
use Rattle.json_reader.specs.Answers.{Ended, ReadsRows}
use Rattle.json_reader.proofs.Endings.{in_room_ended}
use Rattle.json_reader.proofs.Kept.{kept_rows, kept_none}
use Rattle.json_reader.proofs.read.keep_rows.Goals as goal

-- the table after a refusal, which is cleared, and after rows, which stay
refused : (L : Limits) (t old mid new : List ℕ) (a : Result ℕ Refusal) → is_err a ≡ true → Ended (whole_of L (length old) t) old mid a → length mid ≡ length old
    → new ≡ replicate (length mid) 0 → ReadsRows L t old a new
refused L t old mid new (Err r) b e long clear = kept_none mid e long clear
refused L t old mid new (Ok n) b e long clear = absurd (true≢false (sym b))

kept : (L : Limits) (t old new : List ℕ) (a : Result ℕ Refusal) → is_err a ≡ false → Ended (whole_of L (length old) t) old new a → ReadsRows L t old a new
kept L t old new (Ok n) b e = kept_rows e
kept L t old new (Err r) b e = absurd (true≢false b)

pub returns-then-is_err : goal.returns-then-is_err
returns-then-is_err c =
    λ L t old long s.
    let a = c.args in
    let room = c.in_room-answer in
    refused L t old a.table.now _ room.result (sym c.is_err.ensures.value ∙ c.if-is_err.true)
    (rw (sym room.ensures) at (in_room_ended L t old a.table.now a.read long s)) long (c.fill.ensures.after (λ y e. e))

pub returns-else-is_err : goal.returns-else-is_err
returns-else-is_err c =
    λ L t old long s.
    let a = c.args in
    let room = c.in_room-answer in
    kept L t old a.table.now room.result (sym c.is_err.ensures.value ∙ c.if-is_err.false)
    (rw (sym room.ensures) at (in_room_ended L t old a.table.now a.read long s))
