-- Patched as the PatchObject says, where no key breaks 22 to 26: `patched`, of a document and the members of the PatchObject; `patched_card`, of a card.
-- And the order of the entries and white space don't count: `order_of_texts`.
-- Assumes nothing.
use mathlib.Core.Bool.{false, true≢false}
use mathlib.Core.List.{List, [], ◌∷◌}
use mathlib.Core.Option.{none, some}
use mathlib.Core.Logic.{◌≢◌}
use mathlib.Core.Path.{◌≡◌, refl, sym, ap, ◌∙◌}
use Prim.Native.Nat.{ℕ}
use Rattle.laws.specs.Sorting.{Perm, stay, skip, swap, and_then}
use Rattle.laws.proofs.Bools.{or_false}
use Rattle.laws.proofs.Orders.{same_refl}
use Rattle.laws.specs.Order.{same}
use Rattle.text.specs.Limits.{Limits}
use Rattle.text.specs.Text.{bytes}
use Rattle.text.specs.Tree.{Forest}
use Rattle.text.specs.Doc.{Name, Doc, object, Members, member, Property, property, seek, doc_of, scalar, array}
use Rattle.text.specs.Labels.{Labelled}
use Rattle.text.specs.Writable.{Lexeme, Writable}
use Rattle.contact.specs.Verdict.{passed, judged_of}
use Rattle.contact.specs.Pointer.{last, find, within, Pointer, down, first_part}
use Rattle.contact.specs.Patch.{Entry, entries_of, without, applied, entry, added, kept, any_own}
use Rattle.contact.specs.Faults.{PatchFault, all_kept, broken_by, fault_in}
use Rattle.contact.specs.Localize.{key_refusal, Outcome, denied, start, patch_at, by_room, by_entries, in_patch, with_patch, localized_doc, localized_of, patched_doc}
use Rattle.contact.specs.Places.{key_place}
use Rattle.contact.specs.Entries.{Shuffled, as_it_is, keep_first, swap_first, and_on, Apart, ApartFrom, NoClash}
use Rattle.contact.specs.Conditions.{PatchOf, BreaksWith, Applicable}
use Rattle.contact.specs.Patching.{Rearranged, rearranged, AtMember, this_one, later_one, InMember, in_member, OrderOnly, Patched, PatchedCard}
use Rattle.contact.proofs.Patching.Asked.{asked_of}
use Rattle.contact.proofs.Patching.Names.{same_no, same_yes}
use Rattle.contact.proofs.Patching.Order.{any_order}
use Rattle.contact.proofs.Patching.Untouched.{untouched}
use Rattle.contact.proofs.Patching.Start.{start_left}
use Rattle.contact.proofs.Patching.Seek.{seek_without_same, seek_without_other}
use Rattle.contact.proofs.Patching.Layout.{laid_root, laid_below}
use Rattle.contact.proofs.Patching.Effect.{effect}
use Rattle.contact.proofs.Patching.Looking.{RunsTo}
use Rattle.contact.proofs.Patching.Single.{in_any_order}
use Rattle.contact.proofs.Patching.Reorder.{same_reordered}
use Rattle.contact.proofs.Patching.Distinct.{DistinctValues, distinct_run, distinct_applied, perm_values, entries_values, distinct_start, find_distinct}
use Rattle.contact.proofs.Patching.Apart.{clear_apart}
use Rattle.contact.proofs.Patching.Every.{labels_stay, labels_long, start_every, find_every}
use Rattle.contact.proofs.Patching.Room.{bytes_together, values_together}
use Rattle.contact.proofs.Patching.Faults.{kept_iff, fault_iff, fault_order}
use Rattle.contact.proofs.Patching.Fine.{Fine, fine}
use Rattle.contact.proofs.Patching.Steps.{broken_so, unbroken_so}
use Rattle.contact.proofs.Patching.Public.{passed_so}

-- ---- members in another order are entries in another order

pub shuffled_entries : {ms ns : Members} → Shuffled ms ns → Perm (entries_of ms) (entries_of ns)
shuffled_entries as_it_is = stay
shuffled_entries (keep_first σ) = skip (shuffled_entries σ)
shuffled_entries swap_first = swap
shuffled_entries (and_on σ τ) = and_then (shuffled_entries σ) (shuffled_entries τ)

-- ---- cards that differ in the order of entries

-- what is found at the member, in the one and in the other
record Both (n : Name) (R : Doc → Doc → Type 0) (ms ns : Members) : Type 0 where
  label : List ℕ
  one : Doc
  other : Doc
  in_one : seek n ms ≡ some (property label one)
  in_other : seek n ns ≡ some (property label other)
  related : R one other

at_both : {n : Name} {R : Doc → Doc → Type 0} {ms ns : Members} → AtMember n R ms ns → Both n R ms ns
at_both {n} (this_one {label = label} {d = d} {e = e} r) =
    record { label = label; one = d; other = e; in_one = simp (same_refl n); in_other = simp (same_refl n); related = r }
at_both (later_one h x) =
    let b = at_both x in
    record { label = b.label; one = b.one; other = b.other; in_one = simp (same_no h) b.in_one; in_other = simp (same_no h) b.in_other; related = b.related }

at_rest : {n : Name} {R : Doc → Doc → Type 0} {ms ns : Members} → AtMember n R ms ns → without n ms ≡ without n ns
at_rest {n} (this_one r) = simp (same_refl n)
at_rest (later_one {m = m} {label = label} {d = d} h x) = simp (same_no h) (ap (member m label d) (at_rest x))

-- ---- the patched document

-- it can be written, as the document and the PatchObject can
pub applied_writable : (d : Doc) (ms : Members) → Writable d → Writable (object ms) → NoClash (entries_of ms) → Writable (applied d (entries_of ms))
applied_writable d ms wd wm nc =
    record { labels = labels_stay Lexeme d ms wm.labels wd.labels; distinct = distinct_applied d (entries_of ms) nc (entries_values ms wm.distinct) wd.distinct }

pub patched : (d : Doc) (ms : Members) → Writable d → Writable (object ms) → Applicable d ms → Patched d ms (applied d (entries_of ms))
patched d ms wd wm u =
    let es : List Entry = entries_of ms in
    let x : Doc = applied d es in
    let h : Fine d ms = fine d ms u in
    let v : DistinctValues es = entries_values ms wm.distinct in
    record {
      entries = es;
      asked = asked_of ms h.none_loose;
      one_by_one = λ fs π.
          let r : RunsTo fs d x = in_any_order es fs d π h.no_clash h.parents in (
            r.end,
            r.reached,
            same_reordered r.end x (distinct_run fs d r.end (perm_values π v) wd.distinct r.reached)
                (distinct_applied d es h.no_clash v wd.distinct) r.alike,
          );
      effects = λ p c i. effect p c d es h.no_clash h.parents i;
      keeps = λ p i. untouched p d es h.no_clash (clear_apart p es i);
      root = λ os e. (kept os es (added os es), ap (λ (y : Doc). applied y es) e, laid_root os es h.no_clash);
      below = λ p label os i e. laid_below p d es label os h.no_clash i e;
      writable = applied_writable d ms wd wm h.no_clash;
      bytes = bytes_together d ms wd.distinct wm.distinct h.no_clash h.parents (labels_long Lexeme ms wm.labels);
      values = values_together d ms wd.distinct wm.distinct h.no_clash h.parents;
    }

-- ---- no localizations are left

abbrev localizations : Name
localizations = bytes "localizations"

first_apart : (p : Pointer) → same (first_part p) localizations ≡ false → Apart (last localizations) p
first_apart (last n) h = λ e. true≢false (sym (same_yes (sym e)) ∙ h)
first_apart (down n p) h = λ e. true≢false (sym (same_yes (sym e)) ∙ h)

own_apart : (es : List Entry) → any_own es ≡ false → ApartFrom (last localizations) es
own_apart [] h = tt
own_apart (entry p c ∷ es) h =
    let x = or_false (same (first_part p) localizations) (any_own es) h in (first_apart p x.0, own_apart es x.1)

start_has_none : (card : Doc) → find (last localizations) (start card) ≡ none
start_has_none (scalar k t) = refl
start_has_none (array xs) = refl
start_has_none (object ms) = seek_without_same localizations ms

start_else : (card : Doc) (p : Pointer) → first_part p ≢ localizations → find p (start card) ≡ find p card
start_else (scalar k t) (last n) h = refl
start_else (scalar k t) (down n p) h = refl
start_else (array xs) (last n) h = refl
start_else (array xs) (down n p) h = refl
start_else (object ms) (last n) h = seek_without_other localizations n ms (λ e. h (sym e))
start_else (object ms) (down n p) h = ap (within (find p)) (seek_without_other localizations n ms (λ e. h (sym e)))

-- ---- the patched card

-- the starting card and the PatchObject can be written, as the card can
pub start_writable : (card : Doc) → Writable card → Writable (start card)
start_writable card w = record { labels = start_every Labelled Lexeme card w.labels; distinct = distinct_start card w.distinct }

pub patch_writable : (card : Doc) (lang : Name) (ms : Members) → PatchOf card lang ms → Writable card → Writable (object ms)
patch_writable card lang ms p w =
    let at : Property = property p.label (object ms) in
    record {
      labels = find_every Labelled Lexeme (patch_at lang) card at w.labels p.stands;
      distinct = find_distinct (patch_at lang) card at w.distinct p.stands;
    }

pub patched_card : (card : Doc) (lang : Name) (ms : Members) → PatchOf card lang ms → Writable card → Applicable (start card) ms
    → PatchedCard card ms (patched_doc card ms)
patched_card card lang ms patch w u =
    let h : Fine (start card) ms = fine (start card) ms u in
    record {
      starting = start_left card lang ms patch;
      started = start_else card;
      from_start = patched (start card) ms (start_writable card w) (patch_writable card lang ms patch w) u;
      unlocalized = untouched (last localizations) (start card) (entries_of ms) h.no_clash (own_apart (entries_of ms) h.none_own) ∙ start_has_none card;
    }

-- ---- the entries in another order

-- two cards that differ in the order of a language's entries only: their PatchObjects, and one starting card
pub record Patches (lang : Name) (card other : Doc) : Type 0 where
  pub ones : Members
  pub others : Members
  pub patch : PatchOf card lang ones
  pub reordered : PatchOf other lang others
  pub shuffled : Shuffled ones others
  pub started : start card ≡ start other

-- objects whose members are in another order, at the language
record Twins (lang : Name) (one other : Doc) : Type 0 where
  label : List ℕ
  ones : Members
  others : Members
  in_one : find (last lang) one ≡ some (property label (object ones))
  in_other : find (last lang) other ≡ some (property label (object others))
  shuffled : Shuffled ones others

twins_of : {lang : Name} {label : List ℕ} {d e one other : Doc} → find (last lang) d ≡ some (property label one) → find (last lang) e ≡ some (property label other)
    → Rearranged one other → Twins lang d e
twins_of {label = label} p q (rearranged {ms = ms} {ns = ns} σ) =
    record { label = label; ones = ms; others = ns; in_one = p; in_other = q; shuffled = σ }

twins : {lang : Name} {one other : Doc} → InMember lang Rearranged one other → Twins lang one other
twins (in_member x) = let b = at_both x in twins_of b.in_one b.in_other b.related

pub order_patches : (card other : Doc) (lang : Name) → OrderOnly lang card other → Patches lang card other
order_patches card other lang (in_member x) =
    let b = at_both x in
    let w = twins b.related in
    record {
      ones = w.ones;
      others = w.others;
      patch = record { label = w.label; stands = ap (within (find (last lang))) b.in_one ∙ w.in_one };
      reordered = record { label = w.label; stands = ap (within (find (last lang))) b.in_other ∙ w.in_other };
      shuffled = w.shuffled;
      started = ap object (at_rest x);
    }

module _ (L : Limits) (words room : ℕ) (place other : Name → ℕ) where
  -- what two PatchObjects make of a document: one text, which is weighed; or one key breaks one condition, and each refusal has its own place for it
  pub data SameFault (d : Doc) (ms ns : Members) : Outcome → Outcome → Type 0 where
    one_text : (text : List ℕ) → SameFault d ms ns (by_room L words room text) (by_room L words room text)
    one_fault : {n : ℕ} {key : Name} → BreaksWith d ms n key → BreaksWith d ns n key
        → SameFault d ms ns (denied (key_refusal n (place key))) (denied (key_refusal n (other key)))

  -- what is found is the same; and if nothing is, so is the document
  entries_order : (d : Doc) (ms ns : Members) → Shuffled ms ns
      → SameFault d ms ns (by_entries L words room place d ms (entries_of ms)) (by_entries L words room other d ns (entries_of ns))
  entries_order d ms ns σ = go (fault_in d ms) refl
    where
      go : (f : PatchFault) → fault_in d ms ≡ f
          → SameFault d ms ns (by_entries L words room place d ms (entries_of ms)) (by_entries L words room other d ns (entries_of ns))
      go all_kept e =
          let same = any_order d (entries_of ms) (entries_of ns) (shuffled_entries σ) (fine d ms ((kept_iff d ms).0 e)).no_clash in
          rw (unbroken_so L words room place d ms e, unbroken_so L words room other d ns (sym (fault_order d σ) ∙ e), same) (one_text _)
      go (broken_by n key) e =
          let q = sym (fault_order d σ) ∙ e in
          rw (broken_so L words room place d ms n key e, broken_so L words room other d ns n key q)
          (one_fault ((fault_iff d ms n key).0 e).smallest.breaks ((fault_iff d ns n key).0 q).smallest.breaks)

-- with its PatchObject a card is localized by the entries
patch_so : (L : Limits) (words room : ℕ) (place : Name → ℕ) (card : Doc) (lang : Name) (ms : Members) → PatchOf card lang ms
    → localized_doc L words room place card lang ≡ by_entries L words room place (start card) ms (entries_of ms)
unfolding localized_doc with_patch in_patch
patch_so L words room place card lang ms p = rw p.stands

-- two texts that pass, whose documents differ in the order of the entries only
pub order_of_texts : (L : Limits) (words room : ℕ) (t u : List ℕ) (lang : Name) (f g : Forest) → judged_of L words t ≡ passed f → judged_of L words u ≡ passed g
    → (x : Patches lang (doc_of t f) (doc_of u g))
    → SameFault L words room (key_place t f lang) (key_place u g lang) (start (doc_of t f)) x.ones x.others
    (localized_of L words room t lang) (localized_of L words room u lang)
order_of_texts L words room t u lang f g p q x =
    rw (
      passed_so L words room t lang f p,
      passed_so L words room u lang g q,
      patch_so L words room (key_place t f lang) (doc_of t f) lang x.ones x.patch,
      patch_so L words room (key_place u g lang) (doc_of u g) lang x.others x.reordered,
      ← x.started,
    )
    (entries_order L words room (key_place t f lang) (key_place u g lang) (start (doc_of t f)) x.ones x.others x.shuffled)
