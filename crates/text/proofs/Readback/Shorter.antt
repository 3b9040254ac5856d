-- What is written of a text's document is no longer than the text: `value_shorter` of a derived value. Assumes nothing.
use mathlib.Core.Path.{◌≡◌, refl, ap}
use mathlib.Core.List.{List, [], ◌∷◌, ◌++◌}
use mathlib.Core.Bool.{true, false}
use Prim.Native.Nat.{ℕ, ◌+◌, ◌≤◌, max}
use native.Mathlib.Omega.{arith}
use lib.ListN.{length, length-append}
use Rattle.text.specs.Strings.{decode}
use Rattle.text.specs.Tree.{Bracket, square, curly}
use Rattle.text.specs.Grammar.{Phrase, value, item, items, Is, simple, empty, full, element, member, one, comma, closing}
use Rattle.text.specs.Doc.{Name, Members, boxed}
use Rattle.text.specs.Writing.{written}
use Rattle.text.proofs.Readback.Says.{inside_of, says, doc_by, says_value}
use Rattle.text.proofs.Readback.Derived.{written_in, written_box}

-- ---- the length of what is written, by its items ----

-- what an item has before its value
abbrev tag : Bracket → (label : List ℕ) → ℕ
tag square label = 0
tag curly label = length label + 1

-- the items, with a comma or a bracket after each
abbrev bulk : Bracket → Members → ℕ
bulk b Members.empty = 0
bulk b (Members.member n label d ms) = tag b label + length (written d) + 1 + bulk b ms

items_length : (b : Bracket) (ms : Members) → length (written_in b ms false) ≡ 1 + bulk b ms
items_length square Members.empty = refl
items_length curly Members.empty = refl
items_length square (Members.member n label d ms) = simp length-append (omega (arith, items_length square ms))
items_length curly (Members.member n label d ms) = simp length-append (omega (arith, items_length curly ms))

first_length : (b : Bracket) (ms : Members) → length (written_in b ms true) ≡ max 1 (bulk b ms)
first_length square Members.empty = refl
first_length curly Members.empty = refl
first_length square (Members.member n label d ms) = simp length-append (omega (arith, items_length square ms))
first_length curly (Members.member n label d ms) = simp length-append (omega (arith, items_length curly ms))

box_length : (b : Bracket) (ms : Members) → length (written (boxed b ms)) ≡ 1 + max 1 (bulk b ms)
box_length b ms = omega (arith, ap length (written_box b ms), first_length b ms)

-- ---- each byte that is written stands in the text ----

abbrev Shorter : Phrase → List ℕ → (Name → List ℕ → Members → Members) → Type 0
Shorter value w f = (b : Bracket) (n : Name) (label : List ℕ) (more : Members) → bulk b (f n label more) ≤ tag b label + length w + 1 + bulk b more
Shorter (item b) w f = (n : Name) (label : List ℕ) (more : Members) → bulk b (f n label more) ≤ length w + 1 + bulk b more
Shorter (items b) w f = (n : Name) (label : List ℕ) (more : Members) → bulk b (f n label more) ≤ length w + 1 + bulk b more

shorter : {a : Phrase} {w : List ℕ} (d : Is a w) → Shorter a w (says d)
shorter (simple k l) = λ b n label more. omega arith
shorter (empty {s} c p) = λ b n label more. omega (arith, box_length c Members.empty, length-append s (closing c ∷ []))
shorter (full {s} {w} c p d) =
    λ b n label more.
    omega (arith, box_length c (says d [] [] Members.empty), shorter d [] [] Members.empty, length-append s (w ++ closing c ∷ []), length-append w (closing c ∷ []))
shorter (element d) = λ n label more. omega (arith, shorter d square [] [] more)
shorter (member {m} {s} {r} {w} g p o d) =
    λ n label more.
    omega (arith, shorter d curly (decode (inside_of g)) m more, length-append m (s ++ 58 ∷ (r ++ w)), length-append s (58 ∷ (r ++ w)), length-append r w)
shorter (one {v} {s} d p) = λ n label more. omega (arith, shorter d [] [] more, length-append v s)
shorter (comma {v} {s} {r} {w} d p o e) =
    λ n label more.
    omega (
      arith,
      shorter d [] [] (says e [] [] more),
      shorter e [] [] more,
      length-append v (s ++ 44 ∷ (r ++ w)),
      length-append s (44 ∷ (r ++ w)),
      length-append r w,
    )

pub value_shorter : {w : List ℕ} (d : Is value w) → length (written (doc_by d)) ≤ length w
value_shorter d = omega (arith, shorter d square [] [] Members.empty, ap (bulk square) (says_value d [] [] Members.empty))
