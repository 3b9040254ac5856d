-- Unpacking before its output is cleared behind the text. Assumes nothing: these are definitions.
use Rattle.std.specs.Prelude.{Result, Ok, Err}
use Rattle.packing.specs.declared.UnpackRefusal.{UnpackRefusal}
use Rattle.std.specs.Prelude.{ℕ, ◌-◌, ◌≤◌, ◌≡◌, List, ◌++◌, length, take, replicate}
use Rattle.text.specs.Limits.{Limits}
use Rattle.packing.specs.Services.{unpack_of, answer_of_restored, output_of_restored}

-- how many bytes of the output an answer says are used: after a refusal none
abbrev pub used_by : Result (ℕ × ℕ) UnpackRefusal → ℕ
used_by (Ok (values, n)) = n
used_by (Err r) = 0

-- the answer is unpacking's, and with zeros behind the bytes that are used the output is too
pub record RestoresIn (L : Limits) (p old new : List ℕ) (answer : Result (ℕ × ℕ) UnpackRefusal) : Type 0 where
  pub answered : answer ≡ answer_of_restored (unpack_of L (length old) p)
  pub inside : used_by answer ≤ length old
  pub bytes : take (used_by answer) new ++ replicate (length old - used_by answer) 0 ≡ output_of_restored (length old) (unpack_of L (length old) p)
