-- Entries that go on to their next parts together, by what all keys begin with:
--     between_more             what holds from lo up to i, and at i
--     slash-found              the slash that ends a part of one key
--     shared-on, filled_on     it ends that of each of the run, and then all go on
--     alike-part               a run inside another
-- Assumes nothing.
use Prim.Native.Nat.{ℕ, zero, suc, ◌+◌, ◌-◌, ◌≤◌, ◌<◌}
use mathlib.Core.Path.{◌≡◌, refl, sym, ◌∙◌}
use mathlib.Core.List.{List}
use mathlib.Core.Logic.{◌≢◌}
use native.Mathlib.Omega.{arith}
use native.Mathlib.Decide.{ℕ_discrete, dec_le}
use lib.ListN.{get_or}
use Rattle.text.specs.Text.{byte_at}
use Rattle.text.specs.Doc.{Name}
use Rattle.json_reader.specs.Cursors.{rest, cursor}
use Rattle.contact.specs.Pointer.{Pointer, down, pointer_of}
use Rattle.pointers.specs.Parts.{RunTo, no_byte, one_more}
use Rattle.pointers.proofs.Laws.Glyphs.{later_run, goes_later, slash_next}
use Rattle.patch.specs.Children.{key_bytes}
use Rattle.patch.specs.Tails.{SameBytes, BeginAlike}
use Rattle.patch.specs.Marks.{met, PlaceWord, FilledWith, NextAt, Advanced, AllAt, PassesSlash}
use Rattle.patch.proofs.Listing.Marks.{down_tail}

pub between_more : (P : ℕ → Type 0) {lo i : ℕ} → ((j : ℕ) → lo ≤ j → j < i → P j) → P i → (j : ℕ) → lo ≤ j → j < i + 1 → P j
between_more P {i = i} h here j x y = elim (ℕ_discrete j i) [
  | yes e ↦ rw e here
  | no ne ↦ h j x (omega arith)
]

-- ---- in one key

-- no slash stands from a place of a key up to another
abbrev pub NoSlash : (key : List ℕ) → (at to : ℕ) → Type 0
NoSlash key at to = (j : ℕ) → at ≤ j → j < to → byte_at key j ≢ 47

pub slash_found : (key : List ℕ) {at most to r : ℕ} → at ≤ to → to < most → NoSlash key at to → byte_at key to ≡ 47 → PlaceWord (to + 1) r
    → 0 < r → PassesSlash key at most r
slash_found key {to = to} le lt h e w some = elim (dec_le met (to + 1)) [
  | yes far ↦ absurd (omega (arith, w.none far))
  | no near ↦ record { slash = to; is = w.is (omega arith); low = w.low; from = le; within = lt; here = e; first = h }
]

-- ---- in all keys

module _ {a x y : List ℕ} {at most r : ℕ} (p : PassesSlash x at most r) (of-x : SameBytes a x most) (of-y : SameBytes a y most) where
  -- they have the same bytes up to the slash
  alike_byte : (j : ℕ) → j < most → byte_at y j ≡ byte_at x j
  alike_byte j lt = sym (of-y j lt).written.same ∙ (of-x j lt).written.same

  -- which pass over none, and no backslash
  alike_run : (d to : ℕ) → at + d ≡ to → to ≤ p.slash → RunTo y 47 at to
  alike_run zero to e le = let here : to ≡ at = omega arith in rw here no_byte
  alike_run (suc d) to e le =
      let j = at + d in
      let lt : j < most = omega (arith, p.within) in
      let here = (of-y j lt).written in
      let next : to ≡ j + 1 = omega arith in
      rw next
      (one_more (alike_run d j refl (omega arith)) (omega (arith, here.same, here.byte)) (λ z. here.no_escape (here.same ∙ z))
      (λ z. p.first j (omega arith) (omega arith) (sym (alike_byte j lt) ∙ z)))

  alike_next : (n : Name) (q : Pointer) → pointer_of (rest y (cursor at 0 0)) ≡ down n q → pointer_of (rest y (cursor r 0 0)) ≡ q
  alike_next n q e =
      let to = p.slash in
      let slash = slash_next y to (alike_byte to p.within ∙ p.here) in
      let run = later_run y (cursor at 0 0) refl (alike_run (to - at) to (omega (arith, p.from)) (omega arith)) in
      rw p.is (sym (down_tail (sym e ∙ (goes_later y run slash.0 slash.1).0)))

pub shared_on : (cues : List ℕ) {pt ptable rows : List ℕ} {lo hi shared cue r : ℕ} → lo < hi → AllAt cues lo hi cue
    → PassesSlash (key_bytes pt ptable (get_or rows lo 0)) cue shared r → BeginAlike pt ptable rows hi shared → (i : ℕ) → lo ≤ i → i < hi
    → NextAt pt ptable rows i (get_or cues i 0) r
shared_on cues {lo = lo} lt all p h i x y n q e =
    (p.low, alike_next p (h.all lo lt) (h.all i y) n q (rw (all i x y) at e))

pub filled_on : {pt ptable rows old new : List ℕ} {lo hi r : ℕ} → ((i : ℕ) → lo ≤ i → i < hi → NextAt pt ptable rows i (get_or old i 0) r)
    → FilledWith old lo hi r new → Advanced pt ptable rows lo hi old new
filled_on h f = record { on = λ s i x y. rw (f.within i x y) (h i x y); around = f.around }

-- ---- a run inside another

pub alike_part : {pt ptable rows : List ℕ} {hi b shared : ℕ} → b ≤ hi → BeginAlike pt ptable rows hi shared → BeginAlike pt ptable rows b shared
alike_part le h = record { like = h.like; all = λ i lt. h.all i (omega arith) }
