-- A walk along the values that stand from row `from` to row `end` of a table, now at row `at`: what F says of all of them, G says of those that
-- are left. G may change from one value to the next. Assumes nothing.
use Prim.Native.Nat.{ℕ, ◌<◌, ◌≤◌, ◌+◌}
use mathlib.Core.Path.{◌≡◌, refl, ◌∙◌}
use mathlib.Core.List.{List}
use Rattle.text.specs.Tree.{Forest, none}
use Rattle.text.specs.Standing.{StandsTo}
use Rattle.text.specs.Firsts.{rest_at}
use Rattle.text.proofs.Promise.{first_row_lem, after, some_at, none_at}
use Rattle.json_reader.specs.Rows.{below_in}
use Rattle.card.specs.Rows.{ValueAt}

-- the value where rows have not ended
pub first_at : {t : List ℕ} {at end : ℕ} (ws : Forest) → StandsTo t at end ws → at < end → ValueAt t at ws
first_at ws h lt = record { some = some_at ws h lt; stands = h.stands }

module _ {A : Type 0} (t : List ℕ) (from end : ℕ) (F : Forest → A) where
  abbrev pub Along : (at : ℕ) → (Forest → A) → Type 0
  Along at G = (vs : Forest) → StandsTo t from end vs → (ws : Forest) × StandsTo t at end ws × (F vs ≡ G ws)

  pub along : Along from F
  along vs s = (vs, s, refl)

  module _ (at : ℕ) (G : Forest → A) (g : Along at G) where
    -- over a value to the next one
    pub along_on : at < end → (H : Forest → A) → ((ws : Forest) → ValueAt t at ws → G ws ≡ H (rest_at ws)) → (to : ℕ) → to ≡ at + 1 + below_in t at
        → Along to H
    along_on lt H step to e vs s =
        let (ws, h, q) = g vs s in
        let v = first_at ws h lt in
        (rest_at ws, rw (e, (first_row_lem ws v.some v.stands).below) (after ws v.some h), q ∙ step ws v)

    -- the end
    pub along_end : end ≤ at → (P : A → Type 0) → P (G none) → (vs : Forest) → StandsTo t from end vs → P (F vs)
    along_end le P this vs s = let (ws, h, q) = g vs s in rw (q, none_at ws h le) this
