-- The names that a container's reading closes where it doesn't compare them, each by the place of its opening quote, and what they make of that reading.
-- The definitions go as those of specs/Reader.antt of `text` do. Assumes nothing: these are definitions.
use Rattle.std.specs.Prelude.{Result, Ok, Err}
use Rattle.text.specs.declared.Fault.{Fault}
use Rattle.text.specs.declared.Fault.TheVariants.{Malformed, Forbidden}
use Rattle.std.specs.Prelude.{ℕ, zero, suc, ◌+◌, List, [], ◌∷◌, ◌++◌, cond, length, eqb}
use Rattle.laws.specs.Earliest.{Earliest, nowhere, found}
use Rattle.text.specs.Limits.{Limits, loose}
use Rattle.text.specs.Text.{byte_at}
use Rattle.text.specs.Strings.{string_end}
use Rattle.text.specs.Tokens.{skip}
use Rattle.text.specs.Tree.{Bracket, square, curly, Forest, none, size, join}
use Rattle.text.specs.Grammar.{closing}
use Rattle.text.specs.Reader.{Read, good, bad, Reader, ItemReader, member_of}
use Rattle.text.specs.declared.Refusal.TheVariants.{Repeated}

-- ---- one item

-- an item of a container whose names are compared, and one whose names aren't: an element has none
abbrev pub strict_item : Limits → List ℕ → (value : Reader) → Bracket → ItemReader
strict_item L t value square = λ prior. value 0 0
strict_item L t value curly = member_of L t value

abbrev pub loose_item : Limits → List ℕ → (value : Reader) → Bracket → ItemReader
loose_item L t value square = λ prior. value 0 0
loose_item L t value curly = member_of (loose L) t value

-- a name that ends is closed, whatever follows it
abbrev pub closed_by : (at : ℕ) → Result ℕ (Fault ℕ) → List ℕ
closed_by at (Ok end) = at ∷ []
closed_by at (Err r) = []

-- the name that the item at a place closes, if it does: not one inside its value
abbrev pub own_name : List ℕ → Bracket → (at : ℕ) → List ℕ
own_name t square at = []
own_name t curly at = let name = closed_by at (string_end t (at + 1)) in cond (eqb (byte_at t at) 34) name []

-- the name that it puts aside to be compared: its own, or none where names aren't compared
abbrev pub aside_name : Limits → List ℕ → Bracket → (at : ℕ) → List ℕ
aside_name L t b at = let name = own_name t b at in cond L.unique name []

-- ---- all items

module _ (t : List ℕ) (own : ℕ → List ℕ) (item : ItemReader) (z : ℕ) where
  -- after an item: none after the closing byte z or where something else stands; after a comma those that follow
  abbrev pub closed_after : (more : Forest → ℕ → List ℕ) → Read → List ℕ
  closed_after more (bad r) = []
  closed_after more (good f to) =
      let x = skip t to in
      let m = more f (skip t (x + 1)) in
      cond (eqb (byte_at t x) z) [] (cond (eqb (byte_at t x) 44) m [])

  -- from a place on, after the items that are done, with so many turns left
  unfoldable pub closed_from : (turns at n : ℕ) → (prior : Forest) → List ℕ
  closed_from zero at n prior = []
  closed_from (suc turns) at n prior =
      own at ++ closed_after (λ f x. closed_from turns x (n + size f) (join prior f)) (item prior at n)

  -- inside a container, from after its bracket on
  unfoldable pub closed_in : (at n : ℕ) → List ℕ
  closed_in at n =
      let x = skip t at in
      let names = closed_from (suc (length t)) x n none in
      cond (eqb (byte_at t x) z) [] names

-- the names that a container closes, from after its bracket on
abbrev pub names_in : Limits → List ℕ → (value : Reader) → Bracket → (at n : ℕ) → List ℕ
names_in L t value b = closed_in t (own_name t b) (loose_item L t value b) (closing b)

-- and those that it puts aside
abbrev pub names_aside : Limits → List ℕ → (value : Reader) → Bracket → (at n : ℕ) → List ℕ
names_aside L t value b = closed_in t (aside_name L t b) (loose_item L t value b) (closing b)

-- ---- what they make of the reading

-- Given the earliest name that repeats one: reading stops at a refusal, so each name that was closed stands before it, and a repeated one wins, also
-- against a repeated name of an object inside. No places are compared.
abbrev pub settle : Earliest → Read → Read
settle nowhere R = R
settle (found p) R = bad (Repeated p)
