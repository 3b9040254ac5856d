-- The line of an answer is the one that its service's definition gives. Assumes nothing.
use Rattle.std.specs.Prelude.{ℕ, ◌≡◌, Result, Ok, Err}
use mathlib.Core.Path.{refl}
use Rattle.text.specs.declared.Refusal.{Refusal}
use Rattle.text.specs.Sheet.{refused, paper}
use Rattle.packing.specs.declared.PackRefusal.{PackRefusal}
use Rattle.packing.specs.declared.UnpackRefusal.{UnpackRefusal}
use Rattle.packing.specs.Services.{refused_packing, refused_unpacking, paper_of_packing, paper_of_unpacking}
use Rattle.contact.specs.declared.CardRefusal.{CardRefusal}
use Rattle.contact.specs.declared.LocalRefusal.{LocalRefusal}
use Rattle.contact.specs.Verdict.{refused_card, paper_of_verdict}
use Rattle.contact.specs.Localize.{refused_local, paper_of_localized}
use Rattle.answers.specs.Sheet.{counted, written}

-- reading's
pub read_line : (a : Result ℕ Refusal) → counted refused a ≡ paper a
unfolding paper
read_line (Ok n) = refl
read_line (Err r) = refl

-- judging's
pub verdict_line : (a : Result ℕ CardRefusal) → counted refused_card a ≡ paper_of_verdict a
unfolding paper_of_verdict
verdict_line (Ok n) = refl
verdict_line (Err r) = refl

-- localizing's
pub localized_line : (a : Result (ℕ × ℕ) LocalRefusal) → written refused_local a ≡ paper_of_localized a
unfolding paper_of_localized
localized_line (Ok (rows, n)) = refl
localized_line (Err r) = refl

-- packing's
pub packing_line : (a : Result (ℕ × ℕ) PackRefusal) → written refused_packing a ≡ paper_of_packing a
unfolding paper_of_packing
packing_line (Ok (rows, n)) = refl
packing_line (Err r) = refl

-- unpacking's
pub unpacking_line : (a : Result (ℕ × ℕ) UnpackRefusal) → written refused_unpacking a ≡ paper_of_unpacking a
unfolding paper_of_unpacking
unpacking_line (Ok (values, n)) = refl
unpacking_line (Err r) = refl
