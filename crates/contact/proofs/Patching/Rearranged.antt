-- What the order of a PatchObject's entries leaves as it is: how many values a card has (`order_count`), how deep it is (`order_depth`), and that its
-- names are distinct (`order_distinct`).
-- Assumes nothing.
use Prim.Native.Nat.{ℕ, suc, ◌+◌, max}
use native.Mathlib.Omega.{arith}
use mathlib.Core.Path.{◌≡◌, refl, sym, ap, ◌∙◌}
use mathlib.Core.List.{List}
use mathlib.Core.Logic.{◌≢◌}
use mathlib.Core.Option.{none, some, some-ne-none}
use Rattle.text.specs.Doc.{Name, Doc, object, Members, member, property, count_of, count_all, seek}
use Rattle.text.specs.Distinct.{Distinct, DistinctMembers}
use Rattle.text.specs.Writable.{depth_in, depth_all}
use Rattle.contact.specs.Entries.{Shuffled, as_it_is, keep_first, swap_first, and_on}
use Rattle.contact.specs.Patching.{Rearranged, rearranged, AtMember, this_one, later_one, InMember, in_member, OrderOnly}
use Rattle.contact.proofs.Patching.Names.{same_yes, same_no, by_name}

-- ---- numbers that don't hang on the order of members

-- a number of a document, made of those of an object's members in any order
record Tally : Type 0 where
  pub one : Doc → ℕ
  pub all : Members → ℕ
  pub with : ℕ → ℕ → ℕ
  pub of_member : (n : Name) (label : List ℕ) (d : Doc) (ms : Members) → all (member n label d ms) ≡ with (one d) (all ms)
  pub of_object : (ms : Members) → one (object ms) ≡ suc (all ms)
  pub swaps : (a b c : ℕ) → with a (with b c) ≡ with b (with a c)

module _ (S : Tally) where
  first_two : (n m : Name) (label l : List ℕ) (d e : Doc) (ms : Members)
      → S.all (member n label d (member m l e ms)) ≡ S.with (S.one d) (S.with (S.one e) (S.all ms))
  first_two n m label l d e ms = S.of_member n label d (member m l e ms) ∙ ap (S.with (S.one d)) (S.of_member m l e ms)

  shuffled_tally : {ms ns : Members} → Shuffled ms ns → S.all ms ≡ S.all ns
  shuffled_tally as_it_is = refl
  shuffled_tally (keep_first {n = n} {label = label} {d = d} {ms = ms} {ns = ns} σ) =
      S.of_member n label d ms ∙ ap (S.with (S.one d)) (shuffled_tally σ) ∙ sym (S.of_member n label d ns)
  shuffled_tally (swap_first {n = n} {m = m} {label = label} {l = l} {d = d} {e = e} {ms = ms}) =
      first_two n m label l d e ms ∙ S.swaps (S.one d) (S.one e) (S.all ms) ∙ sym (first_two m n l label e d ms)
  shuffled_tally (and_on σ τ) = shuffled_tally σ ∙ shuffled_tally τ

  rearranged_tally : (d e : Doc) → Rearranged d e → S.one d ≡ S.one e
  rearranged_tally d e (rearranged {ms = ms} {ns = ns} σ) = S.of_object ms ∙ ap suc (shuffled_tally σ) ∙ sym (S.of_object ns)

  module _ {n : Name} {R : Doc → Doc → Type 0} (alike : (d e : Doc) → R d e → S.one d ≡ S.one e) where
    at_tally : {ms ns : Members} → AtMember n R ms ns → S.all ms ≡ S.all ns
    at_tally (this_one {label = label} {d = d} {e = e} {ms = ms} r) =
        S.of_member n label d ms ∙ ap (λ (k : ℕ). S.with k (S.all ms)) (alike d e r) ∙ sym (S.of_member n label e ms)
    at_tally (later_one {m = m} {label = label} {d = d} {ms = ms} {ns = ns} h x) =
        S.of_member m label d ms ∙ ap (S.with (S.one d)) (at_tally x) ∙ sym (S.of_member m label d ns)

    in_tally : (d e : Doc) → InMember n R d e → S.one d ≡ S.one e
    in_tally d e (in_member {ms = ms} {ns = ns} x) = S.of_object ms ∙ ap suc (at_tally x) ∙ sym (S.of_object ns)

-- the values
counted : Tally
unfolding count_of count_all
counted = record {
  one = count_of;
  all = count_all;
  with = ◌+◌;
  of_member = λ n label d ms. refl;
  of_object = λ ms. refl;
  swaps = λ a b c. omega arith;
}

-- the depth
deep : Tally
unfolding depth_in depth_all
deep = record {
  one = depth_in;
  all = depth_all;
  with = max;
  of_member = λ n label d ms. refl;
  of_object = λ ms. refl;
  swaps = λ a b c. omega arith;
}

pub rearranged_count : (d e : Doc) → Rearranged d e → count_of d ≡ count_of e
unfolding count_of counted
rearranged_count = rearranged_tally counted

pub in_count : {n : Name} {R : Doc → Doc → Type 0} → ((d e : Doc) → R d e → count_of d ≡ count_of e) → (d e : Doc) → InMember n R d e → count_of d ≡ count_of e
unfolding count_of counted
in_count = in_tally counted

pub order_count : (lang : Name) (d e : Doc) → OrderOnly lang d e → count_of d ≡ count_of e
order_count lang d e o = in_count (in_count rearranged_count) d e o

pub order_depth : (lang : Name) (d e : Doc) → OrderOnly lang d e → depth_in d ≡ depth_in e
unfolding depth_in deep
order_depth lang d e o = in_tally deep (in_tally deep (rearranged_tally deep)) d e o

-- ---- distinct names

-- a member that isn't found: the first has another name, and it isn't found behind it
pub not_first : (n m : Name) (label : List ℕ) (d : Doc) (ms : Members) → seek n (member m label d ms) ≡ none → (m ≢ n) × (seek n ms ≡ none)
not_first n m label d ms h =
    by_name m n
    (λ e. let z : some (property label d) ≡ none = rw (same_yes e) at h in absurd (some-ne-none _ z))
    (λ ne. (ne, rw (same_no ne) at h))

not_there : (n m : Name) (label : List ℕ) (d : Doc) (ms : Members) → m ≢ n → seek n ms ≡ none → seek n (member m label d ms) ≡ none
not_there n m label d ms ne h = simp (same_no ne) h

shuffled_none : {ms ns : Members} (k : Name) → Shuffled ms ns → seek k ms ≡ none → seek k ns ≡ none
shuffled_none k as_it_is h = h
shuffled_none k (keep_first {n = n} {label = label} {d = d} {ms = ms} {ns = ns} σ) h =
    let (ne, g) = not_first k n label d ms h in not_there k n label d ns ne (shuffled_none k σ g)
shuffled_none k (swap_first {n = n} {m = m} {label = label} {l = l} {d = d} {e = e} {ms = ms}) h =
    let (ne, g) = not_first k n label d (member m l e ms) h in
    let (nf, f) = not_first k m l e ms g in
    not_there k m l e (member n label d ms) nf (not_there k n label d ms ne f)
shuffled_none k (and_on σ τ) h = shuffled_none k τ (shuffled_none k σ h)

shuffled_distinct : {ms ns : Members} → Shuffled ms ns → DistinctMembers ms → DistinctMembers ns
shuffled_distinct as_it_is h = h
shuffled_distinct (keep_first {n = n} σ) h = (shuffled_none n σ h.0, h.1, shuffled_distinct σ h.2)
shuffled_distinct (swap_first {n = n} {m = m} {label = label} {l = l} {d = d} {e = e} {ms = ms}) h =
    let (ne, g) = not_first n m l e ms h.0 in
    (not_there m n label d ms (λ q. ne (sym q)) h.2.0, h.2.1, (g, h.1, h.2.2))
shuffled_distinct (and_on σ τ) h = shuffled_distinct τ (shuffled_distinct σ h)

rearranged_distinct : (d e : Doc) → Rearranged d e → Distinct d → Distinct e
rearranged_distinct d e (rearranged σ) h = shuffled_distinct σ h

module _ {n : Name} {R : Doc → Doc → Type 0} (stays : (d e : Doc) → R d e → Distinct d → Distinct e) where
  at_none : {ms ns : Members} → AtMember n R ms ns → (k : Name) → seek k ms ≡ none → seek k ns ≡ none
  at_none (this_one {label = label} {d = d} {e = e} {ms = ms} r) k h =
      let (ne, g) = not_first k n label d ms h in not_there k n label e ms ne g
  at_none (later_one {m = m} {label = label} {d = d} {ms = ms} {ns = ns} q x) k h =
      let (ne, g) = not_first k m label d ms h in not_there k m label d ns ne (at_none x k g)

  at_distinct : {ms ns : Members} → AtMember n R ms ns → DistinctMembers ms → DistinctMembers ns
  at_distinct (this_one {d = d} {e = e} r) h = (h.0, stays d e r h.1, h.2)
  at_distinct (later_one {m = m} q x) h = (at_none x m h.0, h.1, at_distinct x h.2)

  in_distinct : (d e : Doc) → InMember n R d e → Distinct d → Distinct e
  in_distinct d e (in_member x) h = at_distinct x h

pub order_distinct : (lang : Name) (d e : Doc) → OrderOnly lang d e → Distinct d → Distinct e
order_distinct lang d e o = in_distinct (in_distinct rearranged_distinct) d e o
