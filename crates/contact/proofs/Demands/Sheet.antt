-- The numbers of each refusal stand on the lines of the sheet that its service has. Assumes nothing.
use Prim.Native.Nat.{ℕ, ◌<◌}
use native.Mathlib.Omega.{arith}
use mathlib.Core.Path.{◌≡◌, refl, sym, ◌∙◌}
use mathlib.Core.Logic.{◌⊎◌, inl, inr, ⊎_elim}
use Rattle.text.specs.Sheet.{numbers, Within}
pub use Rattle.text.proofs.Lines.{OnLine, on_line, wider, line_of, text_line, same_number, same_second}
use Rattle.contact.specs.Verdict.{refused_fault, refused_card}
use Rattle.contact.specs.Localize.{refused_local}
use Rattle.contact.specs.Conditions.{SecondNumber, no_language_case, bad_key_case, own_localizations_case, clash, in_array_case, no_object_case, needed, inside}
use Rattle.contact.specs.declared.CardFault.TheVariants.{Kind, Missing, Value, Rule}
use Rattle.contact.specs.declared.CardRefusal.{CardRefusal}
use Rattle.contact.specs.declared.CardRefusal.TheVariants.{Text, Card}
use Rattle.contact.specs.declared.LocalRefusal.{LocalRefusal}
use Rattle.contact.specs.declared.LocalRefusal.TheVariants.{Given, NoLanguage, BadKey, OwnLocalizations, Clash, InArray, NoObject, Short, Inner}

abbrev pub CardLine : ℕ → Type 0
CardLine n = Within 1 7 n ⊎ Within 11 14 n

abbrev pub LocalLine : ℕ → Type 0
LocalLine n = Within 1 7 n ⊎ Within 11 14 n ⊎ Within 21 28 n

pub card_line : (r : CardRefusal) → OnLine CardLine (refused_card r)
unfolding refused_card refused_fault
card_line (Text r) = wider (λ n l. inl l) (text_line r)
card_line (Card (Kind p)) = on_line 11 p (inr (omega arith))
card_line (Card (Missing p)) = on_line 12 p (inr (omega arith))
card_line (Card (Value p)) = on_line 13 p (inr (omega arith))
card_line (Card (Rule p)) = on_line 14 p (inr (omega arith))

pub local_line : (r : LocalRefusal) → OnLine LocalLine (refused_local r)
unfolding refused_local
local_line (Given r) = wider (λ n l. ⊎_elim (λ x. inl x) (λ x. inr (inl x)) l) (card_line r)
local_line NoLanguage = on_line 21 0 (inr (inr (omega arith)))
local_line (BadKey p) = on_line 22 p (inr (inr (omega arith)))
local_line (OwnLocalizations p) = on_line 23 p (inr (inr (omega arith)))
local_line (Clash p) = on_line 24 p (inr (inr (omega arith)))
local_line (InArray p) = on_line 25 p (inr (inr (omega arith)))
local_line (NoObject p) = on_line 26 p (inr (inr (omega arith)))
local_line (Short n) = on_line 27 n (inr (inr (omega arith)))
local_line (Inner r) = on_line 28 (refused_card r).number (inr (inr (omega arith)))

-- a line's number is not 0
pub card_some : (n : ℕ) → CardLine n → 0 < n
card_some n (inl l) = omega arith
card_some n (inr l) = omega arith

pub local_some : (n : ℕ) → LocalLine n → 0 < n
local_some n (inl l) = omega arith
local_some n (inr (inl l)) = omega arith
local_some n (inr (inr l)) = omega arith

-- 27 and 28 are given by one case each
pub data Late : LocalRefusal → Type 0 where
  early : (r : LocalRefusal) → (refused_local r).number < 27 → Late r
  late_short : (n : ℕ) → Late (Short n)
  late_inner : (r : CardRefusal) → Late (Inner r)

pub late : (r : LocalRefusal) → Late r
unfolding refused_local
late (Given r) = early (Given r) (⊎_elim (λ (l : Within 1 7 (refused_card r).number). omega arith) (λ l. omega arith) (line_of (card_line r)))
late NoLanguage = early NoLanguage (omega arith)
late (BadKey p) = early (BadKey p) (omega arith)
late (OwnLocalizations p) = early (OwnLocalizations p) (omega arith)
late (Clash p) = early (Clash p) (omega arith)
late (InArray p) = early (InArray p) (omega arith)
late (NoObject p) = early (NoObject p) (omega arith)
late (Short n) = late_short n
late (Inner r) = late_inner r

-- the numbers of a refusal, by its second number
pub second_sheet : {r : LocalRefusal} {second : ℕ} → SecondNumber r second → refused_local r ≡ numbers (refused_local r).number second 0
unfolding refused_local
second_sheet no_language_case = refl
second_sheet bad_key_case = refl
second_sheet own_localizations_case = refl
second_sheet clash = refl
second_sheet in_array_case = refl
second_sheet no_object_case = refl
second_sheet needed = refl
second_sheet inside = refl

-- a refusal has one second number
pub one_second : {r : LocalRefusal} {a b : ℕ} → SecondNumber r a → SecondNumber r b → a ≡ b
one_second x y = same_second (sym (second_sheet x) ∙ second_sheet y)
