-- The survey of a packing: the number of its values, or that it has a field that is cut off or an object with a name twice. All fields stand one behind
-- the other, those of a container right behind its head, so the walk goes through them in their order and needs no stack. It asks nothing else: of bytes
-- that are no packing it says something too. Assumes nothing: these are definitions.
use Rattle.std.specs.Prelude.{Option, Some, None}
use Rattle.std.specs.Prelude.{ℕ, zero, suc, ◌+◌, ◌-◌, List, [], ◌∷◌, Bool, true, false, cond, length, leb, ltb, eqb}
use Rattle.laws.specs.Lists.{part_of}
use Rattle.laws.specs.Scan.{scan}
use Rattle.laws.specs.Earliest.{Earliest, nowhere, found, first_repeat}
use Rattle.text.specs.Text.{byte_at}
use Rattle.text.specs.Doc.{Name, Doc, count_of}
pub use Rattle.packing.specs.Packed.{longest}
use Rattle.packing.specs.Places.{length_at}
use Rattle.packing.specs.Unpacked.{distinctly}

-- ---- fields by their places

-- behind the field at a place
abbrev pub next_at : List ℕ → (at : ℕ) → ℕ
next_at p at = at + 3 + length_at p at

-- the name whose field stands at a place
unfoldable pub name_at : List ℕ → (at : ℕ) → Name
name_at p at = part_of p (at + 3) (next_at p at)

-- one turn over members: the place of a name, and then those behind its value
abbrev pub places_body : List ℕ → (end : ℕ) → (ℕ → List ℕ) → ℕ → List ℕ
places_body p end k at = let later = at ∷ k (next_at p (next_at p at)) in cond (leb end at) [] later

-- the places of the names of the members between two places
unfoldable pub member_places : List ℕ → (at end : ℕ) → List ℕ
member_places p at end = scan (places_body p end) [] end at

-- ---- one field

-- is there a place?
abbrev pub is_found : Earliest → Bool
is_found nowhere = false
is_found (found k) = true

-- does an object stand here that has a name twice?
unfoldable pub repeats_at : List ℕ → (at : ℕ) → Bool
repeats_at p at =
    let repeated = is_found (first_repeat (name_at p) (member_places p (at + 3) (next_at p at))) in
    cond (eqb (byte_at p at) 7) repeated false

-- where the walk goes on: inside a container, behind any other field
unfoldable pub onward_at : List ℕ → (at : ℕ) → ℕ
onward_at p at = cond (eqb (byte_at p at) 7) (at + 3) (cond (eqb (byte_at p at) 6) (at + 3) (next_at p at))

-- a field is a value, unless it is a name
unfoldable pub values_at : List ℕ → (at : ℕ) → ℕ
values_at p at = cond (eqb (byte_at p at) 8) 0 1

-- ---- the walk

-- one turn, at a place and with so many values so far: the end; a field that is cut off; a name twice; or the field counted, and what is said of later ones
abbrev pub survey_body : List ℕ → (ℕ → ℕ → Option ℕ) → (at n : ℕ) → Option ℕ
survey_body p k at n =
    let more = k (onward_at p at) (n + values_at p at) in
    let field = cond (repeats_at p at) None more in
    let whole = cond (ltb (length p) (next_at p at)) None field in
    cond (leb (length p) at) (Some n) whole

-- with so many turns at the most
unfoldable pub survey_for : List ℕ → (turns at n : ℕ) → Option ℕ
survey_for p zero at n = None
survey_for p (suc turns) at n = survey_body p (λ to m. survey_for p turns to m) at n

-- from a place on, with so many values before it; each turn goes further, so there are turns enough (`survey_step`, proofs/Turns.antt)
unfoldable pub survey_from : List ℕ → (at n : ℕ) → Option ℕ
survey_from p at n = survey_for p (suc (length p - at)) at n

-- of a whole packing
unfoldable pub survey_of : List ℕ → Option ℕ
survey_of p = let walked = survey_from p 0 0 in cond (ltb longest (length p)) None walked

-- ---- of a document

-- what a survey of its packing says
unfoldable pub surveyed : Doc → Option ℕ
surveyed d = cond (distinctly d) (Some (count_of d)) None
