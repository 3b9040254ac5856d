-- Words that are set one after the other, and marks:
--     set-around, fill_start, fill_one          a run that is filled with a word
--     down-tail, next-goes, next-ends, advance-start, advance-one      entries that go on to their next parts
--     around-part, around-join, around-next     what is outside a run
--     cleared-word, cleared-long, cleared-same, waiting-start     where all begin
-- Assumes nothing.
use Rattle.std.specs.Prelude.{Some, None}
use Prim.Native.Nat.{ℕ, zero, suc, ◌+◌, ◌≤◌, ◌<◌}
use mathlib.Core.Path.{◌≡◌, refl, sym, ap, ◌∙◌}
use mathlib.Core.List.{List, [], ◌∷◌, ◌++◌}
use native.Mathlib.Omega.{arith}
use native.Mathlib.Decide.{ℕ_discrete}
use lib.ListN.{length, get_or, set, drop, replicate}
use lib.Seq.{get_or-set_same, get_or-set_other}
use Rattle.laws.proofs.Parts.{part_short}
use Rattle.laws.specs.Scan.{scan}
use Rattle.text.specs.Strings.{piece_by, decode_from}
use Rattle.text.specs.Utf8.{conts}
use Rattle.text.specs.Doc.{Name}
use Rattle.pointers.specs.Pointers.{strip}
use Rattle.contact.specs.Pointer.{Pointer, down, pointer_of}
use Rattle.json_reader.specs.Rows.{name_start_in, name_end_in}
use Rattle.json_reader.specs.Cursors.{rest, cursor}
use Rattle.pointers.specs.Parts.{GoesAt}
use Rattle.patch.specs.Children.{key_bytes}
use Rattle.patch.specs.Marks.{PlaceWord, Around, FilledWith, left_of, Waiting, ShortKeys, NextCue, NextAt, Advanced}

-- ---- a run that is filled ----

-- one more word behind those up to i
pub set_around : {old new : List ℕ} {lo i : ℕ} (w : ℕ) → lo ≤ i → Around old lo i new → Around old lo (i + 1) (set new i w)
set_around {new = new} {i = i} w le a =
    record {
      under = λ j h. get_or-set_other new i j w 0 (λ e. omega arith) ∙ a.under j h;
      over = λ j h. get_or-set_other new i j w 0 (λ e. omega arith) ∙ a.over j (omega arith);
    }

pub around_start : (old : List ℕ) (lo : ℕ) → Around old lo lo old
around_start old lo = record { under = λ j h. refl; over = λ j h. refl }

pub fill_start : (old : List ℕ) (lo w : ℕ) → FilledWith old lo lo w old
fill_start old lo w = record { within = λ j x y. absurd (omega arith); around = around_start old lo }

pub fill_one : {old new : List ℕ} {lo i : ℕ} (w : ℕ) → lo ≤ i → i < length new → FilledWith old lo i w new → FilledWith old lo (i + 1) w (set new i w)
fill_one {new = new} {i = i} w le lt f =
    record {
      within =
          λ j x y. elim (ℕ_discrete j i) [
            | yes e ↦ rw e (get_or-set_same new i w 0 lt)
            | no ne ↦ get_or-set_other new i j w 0 (λ e. omega arith) ∙ f.within j x (omega arith)
          ];
      around = set_around w le f.around;
    }

-- ---- entries that go on ----

pub down_tail : {n m : Name} {p q : Pointer} → down n p ≡ down m q → p ≡ q
down_tail e = cc

-- where a pointer goes on is where its part ends
pub next_goes : (key : List ℕ) (at : ℕ) {to w : ℕ} → GoesAt key (pointer_of (rest key (cursor at 0 0))) (Some to) → PlaceWord to w → NextCue key at w
next_goes key at {to} {w} (goes, near) word short n q e =
    let place : w ≡ to = word.is (omega arith) in
    let after : q ≡ pointer_of (rest key (cursor to 0 0)) = down_tail (sym e ∙ goes) in
    (word.low, rw place (sym after))

pub next_ends : (key : List ℕ) (at : ℕ) {w : ℕ} → GoesAt key (pointer_of (rest key (cursor at 0 0))) None → NextCue key at w
next_ends key at ends short n q e = let both = sym e ∙ ends in let z : ◌≡◌ {A = ℕ} 0 1 = cc in absurd (omega arith)

module _ {pt ptable rows : List ℕ} {lo : ℕ} where
  pub advance_start : (old : List ℕ) → Advanced pt ptable rows lo lo old old
  advance_start old = record { on = λ s i x y. absurd (omega arith); around = around_start old lo }

  module _ {i : ℕ} {old new : List ℕ} (a : Advanced pt ptable rows lo i old new) (le : lo ≤ i) where
    pub advance_one : {w : ℕ} → i < length new → NextCue (key_bytes pt ptable (get_or rows i 0)) (get_or new i 0) w
        → Advanced pt ptable rows lo (i + 1) old (set new i w)
    advance_one {w} lt next = record { on = on; around = set_around w le a.around }
      where
        on : ShortKeys pt → (j : ℕ) → lo ≤ j → j < i + 1 → NextAt pt ptable rows j (get_or old j 0) (get_or (set new i w) j 0)
        on short j x y n q e = elim (ℕ_discrete j i) [
          | yes same ↦
              let row = get_or rows i 0 in
              let here : length (key_bytes pt ptable row) ≤ length pt = part_short pt (name_start_in ptable row) (name_end_in ptable row) in
              let before : left_of pt ptable rows i (get_or new i 0) ≡ down n q = rw (a.around.over i (omega arith), ← same) e in
              rw (same, get_or-set_same new i w 0 lt) (next (omega arith) n q before)
          | no other ↦ rw (get_or-set_other new i j w 0 (λ z. omega arith)) (a.on short j x (omega arith) n q e)
        ]

-- ---- what is outside a run ----

-- a run inside another
pub around_part : {old new : List ℕ} {lo hi a b : ℕ} → lo ≤ a → b ≤ hi → Around old a b new → Around old lo hi new
around_part x y r = record { under = λ j h. r.under j (omega arith); over = λ j h. r.over j (omega arith) }

-- one after the other
pub around_join : {old mid new : List ℕ} {lo hi : ℕ} → Around old lo hi mid → Around mid lo hi new → Around old lo hi new
around_join r s = record { under = λ j h. s.under j h ∙ r.under j h; over = λ j h. s.over j h ∙ r.over j h }

-- one more place
pub around_next : {old mid new : List ℕ} {lo i : ℕ} → lo ≤ i → Around old lo i mid → Around mid i (i + 1) new → Around old lo (i + 1) new
around_next x r s = record { under = λ j h. s.under j (omega arith) ∙ r.under j h; over = λ j h. s.over j h ∙ r.over j (omega arith) }

pub around_all : (old : List ℕ) (lo hi : ℕ) → Around old lo hi old
around_all old lo hi = record { under = λ j h. refl; over = λ j h. refl }

-- ---- where all begin ----

-- the words of a list whose first n are zero
pub cleared_word : (n i : ℕ) (more : List ℕ) → i < n → get_or (replicate n 0 ++ more) i 0 ≡ 0
cleared_word zero i more h = absurd (omega arith)
cleared_word (suc n) zero more h = refl
cleared_word (suc n) (suc i) more h = cleared_word n i more (omega arith)

pub cleared_long : (n : ℕ) (more : List ℕ) → n ≤ length (replicate n 0 ++ more)
cleared_long zero more = omega arith
cleared_long (suc n) more = omega (arith, cleared_long n more)

pub cleared_same : (n : ℕ) (xs : List ℕ) → n ≤ length xs → length (replicate n 0 ++ drop n xs) ≡ length xs
cleared_same zero xs h = refl
cleared_same (suc n) [] h = absurd (omega arith)
cleared_same (suc n) (x ∷ xs) h = ap suc (cleared_same n xs (omega arith))

-- then each waits with its whole pointer
pub waiting_start : (pt ptable rows cues : List ℕ) (n : ℕ) → ((i : ℕ) → i < n → get_or cues i 0 ≡ 0) → Waiting pt ptable rows cues 0 n 0
unfolding strip conts decode_from scan piece_by
waiting_start pt ptable rows cues n zeros i x y = record { low = omega (arith, zeros i y); left = rw (zeros i y) refl }
