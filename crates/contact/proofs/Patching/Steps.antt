-- Localizing step by step, as it is carried out:
--     judged-answer                      what judging answers, by its answer on paper
--     answer-failed, failed-answer           a text is refused as the papers say
--     broken-so, unbroken-so             22 to 26 refuse with the place of the key, or the text that would be written is weighed
--     short-so, room-so                  27, and then the text that is written is judged
--     start-walk, start-walks            a pointer that does not begin with `localizations` leads where it leads in the card
-- Assumes nothing.
use Rattle.std.specs.Prelude.{Result, Err}
use mathlib.Core.Path.{◌≡◌, refl, sym, ap, ◌∙◌}
use mathlib.Core.Bool.{Bool, false, true≢false}
use mathlib.Core.List.{List, [], ◌∷◌}
use Prim.Native.Nat.{ℕ, ◌≤◌, ◌<◌}
use lib.ListN.{length}
use native.Mathlib.Omega.{arith}
use borrow.Author.Tests.{lt-ltb, le-ltb}
use Rattle.laws.specs.Order.{same}
use Rattle.laws.specs.Lists.{filled}
use Rattle.laws.proofs.Bools.{or_false}
use Rattle.text.specs.Limits.{Limits}
use Rattle.text.specs.Text.{bytes}
use Rattle.text.specs.Doc.{Name, Doc, scalar, array, object, Members}
use Rattle.text.specs.Writing.{written}
use Rattle.contact.specs.Verdict.{paper_of_verdict, refused_card, Judged, passed, failed, judged_of, answer_of_judged, sheet_of_judged, table_of_judged}
use Rattle.contact.specs.Judging.{CardAnswer}
use Rattle.contact.specs.Pointer.{Pointer, last, down, first_part}
use Rattle.contact.specs.Patch.{Entry, entry, entries_of, Walk, onward, walk, any_own, any_walk, applied}
use Rattle.contact.specs.Faults.{all_kept, broken_by, fault_in}
use Rattle.contact.specs.Localize.{key_refusal, denied, start, by_judge, by_room, by_fault, by_entries}
use Rattle.contact.specs.declared.CardRefusal.{CardRefusal}
use Rattle.contact.specs.declared.LocalRefusal.TheVariants.{Short}
use Rattle.contact.proofs.Judging.{one_answer, judging}
use Rattle.contact.proofs.Patching.Names.{same_yes}
use Rattle.contact.proofs.Patching.Seek.{seek_without_other}

-- ---- judging

pub judged_answer : (v : Result ℕ CardRefusal) (j : Judged) → paper_of_verdict v ≡ sheet_of_judged j → v ≡ answer_of_judged j
unfolding sheet_of_judged
judged_answer v j e = one_answer v (answer_of_judged j) e

-- a text is refused in the words of the papers as it is judged
module _ (L : Limits) (words : ℕ) (t : List ℕ) (r : CardRefusal) where
  pub answer_failed : {table : List ℕ} → CardAnswer L words t (refused_card r) table → judged_of L words t ≡ failed r
  unfolding paper_of_verdict
  answer_failed {table} s = go (judged_of L words t) (judged_answer (Err r) (judged_of L words t) ((judging.answer L words t (refused_card r) table).1 s).0)
    where
      go : (j : Judged) → Err r ≡ answer_of_judged j → j ≡ failed r
      go (passed f) e = let z : ◌≡◌ {A = ℕ} 0 1 = cc in absurd (omega arith)
      go (failed q) e = let h : r ≡ q = cc in ap (λ (x : CardRefusal). failed x) (sym h)

  pub failed_answer : judged_of L words t ≡ failed r → CardAnswer L words t (refused_card r) (filled words [])
  unfolding paper_of_verdict sheet_of_judged table_of_judged
  failed_answer e = (judging.answer L words t (refused_card r) (filled words [])).0 (rw e, rw e)

module _ (L : Limits) (words room : ℕ) where
  -- ---- 22 to 26

  module _ (place : Name → ℕ) (d : Doc) (ms : Members) where
    pub broken_so : (n : ℕ) (key : Name) → fault_in d ms ≡ broken_by n key → by_entries L words room place d ms (entries_of ms) ≡ denied (key_refusal n (place key))
    unfolding by_entries by_fault
    broken_so n key e = rw e

    pub unbroken_so : fault_in d ms ≡ all_kept → by_entries L words room place d ms (entries_of ms) ≡ by_room L words room (written (applied d (entries_of ms)))
    unfolding by_entries by_fault
    unbroken_so e = rw e

  -- ---- 27

  pub short_so : (text : List ℕ) → room < length text → by_room L words room text ≡ denied (Short (length text))
  unfolding by_room
  short_so text h = rw (lt-ltb room (length text) h)

  pub room_so : (text : List ℕ) → length text ≤ room → by_room L words room text ≡ by_judge L words room text (judged_of L words text)
  unfolding by_room
  room_so text h = rw (le-ltb room (length text) h)

-- ---- on the card, and on the card without its localizations

pub start_walk : (p : Pointer) (card : Doc) → same (first_part p) (bytes "localizations") ≡ false → walk p (start card) ≡ walk p card
start_walk (last n) (scalar kind token) h = refl
start_walk (last n) (array ms) h = refl
start_walk (last n) (object ms) h = refl
start_walk (down n p) (scalar kind token) h = refl
start_walk (down n p) (array ms) h = refl
start_walk (down n p) (object ms) h =
    ap (onward (walk p)) (seek_without_other (bytes "localizations") n ms (λ e. true≢false (sym (same_yes (sym e)) ∙ h)))

pub start_walks : (is : Walk → Bool) (es : List Entry) (card : Doc) → any_own es ≡ false → any_walk is es (start card) ≡ any_walk is es card
start_walks is [] card h = refl
start_walks is (entry p c ∷ es) card h =
    let x = or_false (same (first_part p) (bytes "localizations")) (any_own es) h in
    rw (start_walk p card x.0, start_walks is es card x.1)
