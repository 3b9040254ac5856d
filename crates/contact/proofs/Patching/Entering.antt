-- What the entries of a PatchObject make of a document: it is refused by the broken condition of smallest number (`entries_refused`), and of 22 to 26
-- that is about the smallest key that breaks it (`smallest_key`); a card is written exactly when none is broken (`entries_accepted`).
-- Assumes nothing.
use mathlib.Core.Path.{◌≡◌, refl, sym, ap, ◌∙◌, subst}
use mathlib.Core.Bool.{false}
use mathlib.Core.Logic.{◌↔◌}
use mathlib.Core.List.{List}
use Prim.Native.Nat.{ℕ, suc, ◌≤◌, ◌<◌}
use native.Mathlib.Decide.{dec_le}
use native.Mathlib.Omega.{arith}
use lib.ListN.{length}
use lib.Dec.{ltb}
use borrow.Author.Tests.{ltb-true, ltb-false}
use Rattle.laws.proofs.Bools.{by_test}
use Rattle.text.specs.Limits.{Limits}
use Rattle.text.specs.Tree.{Forest}
use Rattle.text.specs.declared.Paper.{Paper}
use Rattle.text.specs.Sheet.{numbers}
use Rattle.text.specs.Doc.{Name, Doc, Members}
use Rattle.text.specs.Writing.{written}
use Rattle.contact.specs.Verdict.{Judged, passed, failed, judged_of}
use Rattle.contact.specs.Patch.{entries_of, applied}
use Rattle.contact.specs.Faults.{PatchFault, all_kept, broken_by, fault_in}
use Rattle.contact.specs.Localize.{refused_local, key_refusal, Outcome, done, denied, by_judge, by_room, by_fault, by_entries}
use Rattle.contact.specs.Conditions.{BreaksWith, bad_key, own_localizations, clashing, entering_array, losing_way, Applicable, FirstBroken, SecondNumber, BrokenPatch, with_key, short, unfit, Smallest}
use Rattle.contact.specs.Conditions as S
use Rattle.contact.specs.declared.CardRefusal.{CardRefusal}
use Rattle.contact.specs.declared.LocalRefusal.{LocalRefusal}
use Rattle.contact.specs.declared.LocalRefusal.TheVariants.{Short, Inner}
use Rattle.contact.proofs.Patching.Faults.{up_to_26, Due, fault_found, one_key}
use Rattle.contact.proofs.Patching.Steps.{answer_failed, failed_answer}

-- the numbers of a key's refusal: the condition's, and the key's place
pub key_numbers : {d : Doc} {ms : Members} {n : ℕ} {key : Name} (place : ℕ) → BreaksWith d ms n key → refused_local (key_refusal n place) ≡ numbers n place 0
unfolding refused_local
key_numbers place (bad_key x t) = refl
key_numbers place (own_localizations x w t) = refl
key_numbers place (clashing x w v t) = refl
key_numbers place (entering_array x w t) = refl
key_numbers place (losing_way x w t) = refl

pub key_second : {d : Doc} {ms : Members} {n : ℕ} {key : Name} (place : ℕ) → BreaksWith d ms n key → SecondNumber (key_refusal n place) place
key_second place (bad_key x t) = S.bad_key_case
key_second place (own_localizations x w t) = S.own_localizations_case
key_second place (clashing x w v t) = S.clash
key_second place (entering_array x w t) = S.in_array_case
key_second place (losing_way x w t) = S.no_object_case

module _ (L : Limits) (words room : ℕ) (place : Name → ℕ) (d : Doc) (ms : Members) where
  abbrev B : ℕ → LocalRefusal → Type 0
  B n r = BrokenPatch L words room place d ms n r

  -- the text of the document as the entries leave it
  abbrev text : List ℕ
  text = written (applied d (entries_of ms))

  -- nothing is broken, and that text is written, with its tree
  pub record Accepted (t : List ℕ) (f : Forest) : Type 0 where
    pub unbroken : (m : ℕ) (q : LocalRefusal) → ¬ B m q
    pub writes : t ≡ text
    pub reads : judged_of L words t ≡ passed f

  -- what an outcome stands for
  abbrev Stands : Outcome → Type 0
  Stands (done t f) = Accepted t f
  Stands (denied r) = (n : ℕ) × Smallest B n r

  -- ---- numbers

  -- no condition of a number below n is broken
  abbrev AtLeast : ℕ → Type 0
  AtLeast n = (m : ℕ) (q : LocalRefusal) → B m q → n ≤ m

  up_to_28 : (m : ℕ) (q : LocalRefusal) → B m q → m ≤ 28
  up_to_28 m q (with_key {key = key} b) = omega (arith, up_to_26 d ms m key b.breaks)
  up_to_28 m q (short x) = omega arith
  up_to_28 m q (unfit e) = omega arith

  raise : (n : ℕ) → AtLeast n → ((q : LocalRefusal) → ¬ B n q) → AtLeast (suc n)
  raise n h free m q b = elim (dec_le (suc n) m) [
    | yes k ↦ k
    | no k ↦ let i : n ≤ m = h m q b in let e : m ≡ n = omega arith in absurd (free q (subst (λ (x : ℕ). B x q) e b))
  ]

  -- ---- 22 to 26

  first_broken : {n : ℕ} {key : Name} → FirstBroken d ms n key → B n (key_refusal n (place key))
  first_broken s = with_key s.smallest

  pub key_smallest : {n : ℕ} {key : Name} → FirstBroken d ms n key → Smallest B n (key_refusal n (place key))
  key_smallest {n} {key} s = record { broken = first_broken s; least = go }
    where
      go : (m : ℕ) (q : LocalRefusal) → B m q → n ≤ m
      go m q (with_key {key = other} b) = s.least m other b.breaks
      go m q (short k) = omega (arith, up_to_26 d ms n key s.smallest.breaks)
      go m q (unfit e) = omega (arith, up_to_26 d ms n key s.smallest.breaks)

  from_27 : Applicable d ms → AtLeast 27
  from_27 u m q (with_key {key = key} b) = absurd (u m key b.breaks)
  from_27 u m q (short k) = omega arith
  from_27 u m q (unfit e) = omega arith

  -- none of them is broken, if no number up to 26 is
  pub late_applicable : AtLeast 27 → Applicable d ms
  late_applicable h = go (fault_in d ms) (fault_found d ms)
    where
      go : (f : PatchFault) → Due d ms f → Applicable d ms
      go all_kept u = u
      go (broken_by n key) s = absurd (omega (arith, h n _ (first_broken s), up_to_26 d ms n key s.smallest.breaks))

  -- ---- 27 and 28

  no_27 : ltb room (length text) ≡ false → (q : LocalRefusal) → ¬ B 27 q
  no_27 e q (with_key {key = key} b) = omega (arith, up_to_26 d ms 27 key b.breaks)
  no_27 e q (short k) = omega (arith, ltb-false room (length text) e)

  no_28 : (f : Forest) → judged_of L words text ≡ passed f → (q : LocalRefusal) → ¬ B 28 q
  no_28 f e q (with_key {key = key} b) = omega (arith, up_to_26 d ms 28 key b.breaks)
  no_28 f e q (unfit {r = r} s) =
      let h : judged_of L words text ≡ failed r = answer_failed L words text r s in
      let z : ◌≡◌ {A = ℕ} 0 1 = cc in omega arith

  -- what 27 is about
  pub short_of_lem : {r : LocalRefusal} → B 27 r → (room < length text) × (r ≡ Short (length text))
  short_of_lem (with_key {key = key} b) = absurd (omega (arith, up_to_26 d ms 27 key b.breaks))
  short_of_lem (short k) = (k, refl)

  -- and 28
  pub unfit_of : {r : LocalRefusal} → B 28 r → (x : CardRefusal) × (judged_of L words text ≡ failed x) × (r ≡ Inner x)
  unfit_of (with_key {key = key} b) = absurd (omega (arith, up_to_26 d ms 28 key b.breaks))
  unfit_of (unfit {r = r} s) = (r, answer_failed L words text r s, refl)

  -- ---- the answer, test by test

  by_judge_lem : (j : Judged) → judged_of L words text ≡ j → AtLeast 28 → Stands (by_judge L words room text j)
  unfolding by_judge
  by_judge_lem (passed f) e h = record {
    unbroken = λ m q b. let k : 29 ≤ m = raise 28 h (no_28 f e) m q b in omega (arith, up_to_28 m q b);
    writes = refl;
    reads = e;
  }
  by_judge_lem (failed r) e h = (28, record { broken = unfit (failed_answer L words text r e); least = h })

  by_room_lem : AtLeast 27 → Stands (by_room L words room text)
  unfolding by_room
  by_room_lem h =
      by_test (ltb room (length text))
      (λ b. rw b (27, record { broken = short (ltb-true room (length text) b); least = h }))
      (λ b. rw b (by_judge_lem (judged_of L words text) refl (raise 27 h (no_27 b))))

  by_fault_lem : (f : PatchFault) → Due d ms f → Stands (by_fault L words room place d (entries_of ms) f)
  unfolding by_fault
  by_fault_lem all_kept u = by_room_lem (from_27 u)
  by_fault_lem (broken_by n key) s = (n, key_smallest s)

  answer : Stands (by_entries L words room place d ms (entries_of ms))
  unfolding by_entries
  answer = by_fault_lem (fault_in d ms) (fault_found d ms)

  -- ---- a number calls for one refusal

  one_refusal : (n : ℕ) (r q : LocalRefusal) → B n r → B n q → r ≡ q
  one_refusal n r q (with_key {key = key} b) (with_key {key = other} b') =
      ap (λ (k : Name). key_refusal n (place k)) (one_key key other (b'.no_earlier key b.breaks) (b.no_earlier other b'.breaks))
  one_refusal n r q (with_key {key = key} b) (short k) = absurd (omega (arith, up_to_26 d ms n key b.breaks))
  one_refusal n r q (with_key {key = key} b) (unfit s) = absurd (omega (arith, up_to_26 d ms n key b.breaks))
  one_refusal n r q (short k) (with_key {key = key} b) = absurd (omega (arith, up_to_26 d ms n key b.breaks))
  one_refusal n r q (unfit s) (with_key {key = key} b) = absurd (omega (arith, up_to_26 d ms n key b.breaks))
  one_refusal n r q (short k) (short k') = refl
  one_refusal n r q (unfit {r = x} s) (unfit {r = y} s') =
      let g : judged_of L words text ≡ failed x = answer_failed L words text x s in
      let h : judged_of L words text ≡ failed y = answer_failed L words text y s' in
      cc

  -- the sheet's number of a broken condition
  pub patch_number : {n : ℕ} {r : LocalRefusal} → B n r → (refused_local r).number ≡ n
  unfolding refused_local
  patch_number (with_key {key = key} b) = ap (λ (a : Paper). a.number) (key_numbers (place key) b.breaks)
  patch_number (short k) = refl
  patch_number (unfit e) = refl

  -- and its second number
  pub patch_second : {n : ℕ} {r : LocalRefusal} → B n r → SecondNumber r (refused_local r).second
  unfolding refused_local
  patch_second (with_key {key = key} b) = rw (key_numbers (place key) b.breaks) (key_second (place key) b.breaks)
  patch_second (short k) = S.needed
  patch_second (unfit e) = S.inside

  -- ---- the theorems

  -- the smallest number, from 22 to 26, has its key, and the refusal that key's place
  pub smallest_key : (n : ℕ) (r : LocalRefusal) → n ≤ 26 → Smallest B n r → (key : Name) × FirstBroken d ms n key × (r ≡ key_refusal n (place key))
  smallest_key n r high s = go (fault_in d ms) (fault_found d ms)
    where
      go : (f : PatchFault) → Due d ms f → (key : Name) × FirstBroken d ms n key × (r ≡ key_refusal n (place key))
      go all_kept u = absurd (omega (arith, from_27 u n r s.broken))
      go (broken_by m key) u =
          let i = (key_smallest u).least n r s.broken in
          let j = s.least m _ (first_broken u) in
          let e : m ≡ n = omega arith in
          let v : FirstBroken d ms n key = subst (λ (x : ℕ). FirstBroken d ms x key) e u in
          (key, v, one_refusal n r (key_refusal n (place key)) s.broken (first_broken v))

  smallest_so : (o : Outcome) → Stands o → (n : ℕ) (r : LocalRefusal) → Smallest B n r → o ≡ denied r
  smallest_so (done t f) a n r s = absurd (a.unbroken n r s.broken)
  smallest_so (denied q) a n r s =
      let h : n ≤ a.0 = s.least a.0 q a.1.broken in
      let k : a.0 ≤ n = a.1.least n r s.broken in
      let e : a.0 ≡ n = omega arith in
      ap (λ (x : LocalRefusal). denied x) (one_refusal n q r (subst (λ (m : ℕ). B m q) e a.1.broken) s.broken)

  accepted_so : (o : Outcome) → Stands o → (t : List ℕ) (f : Forest) → Accepted t f → o ≡ done t f
  accepted_so (denied q) a t f s = absurd (s.unbroken a.0 q a.1.broken)
  accepted_so (done u g) a t f s =
      let e : u ≡ t = a.writes ∙ sym s.writes in
      let h : passed g ≡ passed f = sym a.reads ∙ ap (judged_of L words) e ∙ s.reads in
      let k : g ≡ f = cc in
      cc

  -- refused exactly if the condition is broken, and none of a smaller number
  pub entries_refused : (r : LocalRefusal) → (by_entries L words room place d ms (entries_of ms) ≡ denied r) ↔ Smallest B (refused_local r).number r
  entries_refused r = (λ e. numbered r (subst Stands e answer), smallest_so (by_entries L words room place d ms (entries_of ms)) answer (refused_local r).number r)
    where
      numbered : (r : LocalRefusal) → (n : ℕ) × Smallest B n r → Smallest B (refused_local r).number r
      numbered r (n, s) = rw (patch_number s.broken) s

  -- written exactly if no condition is broken
  pub entries_accepted : (t : List ℕ) (f : Forest) → (by_entries L words room place d ms (entries_of ms) ≡ done t f) ↔ Accepted t f
  entries_accepted t f = (λ e. subst Stands e answer, accepted_so (by_entries L words room place d ms (entries_of ms)) answer t f)
