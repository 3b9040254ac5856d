-- 24 by neighbours: where the keys stand in the order of their pointers and none has a loose `~`, the smallest key that clashes with the next one is the
-- smallest that clashes with any: `neighbours`. A pointer that clashes with a later one clashes with all between, and it is a prefix, so its key is not
-- after the other in byte order.
-- Assumes nothing.
use Rattle.std.specs.declared.cmp.Ordering.TheVariants.{Greater}
use mathlib.Core.Path.{◌≡◌, refl, ap₂}
use mathlib.Core.Bool.{Bool, true, false}
use mathlib.Core.Logic.{◌≢◌}
use mathlib.Core.List.{List}
use mathlib.Core.Option.{Option, none, some}
use Prim.Native.Nat.{ℕ}
use Rattle.laws.specs.Sorting.{Upto, upto_more, Sorted, sorted_more}
use Rattle.laws.proofs.Bools.{by_test, or_false}
use Rattle.text.specs.Doc.{Name, Doc, Members, empty, member}
use Rattle.contact.specs.Pointer.{pointer_of, bad_tilde, clash}
use Rattle.contact.specs.Patch.{any_bad_key}
use Rattle.contact.specs.Faults.{smaller_key, key_if, least_key, with_others, least_clash}
use Rattle.contact.specs.Conditions.{HasKey, first, later}
use Rattle.contact.proofs.Patching.Least.{Least, key_least}
use Rattle.pointers.proofs.Laws.Prefixes.{between, prefix_first}
use Rattle.patch.specs.Neighbours.{keys_of, key_order, least_leading}

abbrev clashing : Name → Name → Bool
clashing key other = clash (pointer_of key) (pointer_of other)

-- ---- one of the keys

upto_key : {key other : Name} {ms : Members} → HasKey other ms → Upto key_order key (keys_of ms) → key_order key other ≢ Greater
upto_key first (upto_more h u) = h
upto_key (later x) (upto_more h u) = upto_key x u

good_key : {other : Name} {ms : Members} → any_bad_key ms ≡ false → HasKey other ms → bad_tilde other ≡ false
good_key {other} e (first {ms = ms}) = (or_false (bad_tilde other) (any_bad_key ms) e).0
good_key e (later {n = n} {ms = ms} x) = good_key (or_false (bad_tilde n) (any_bad_key ms) e).1 x

-- ---- a key and those behind it

module _ (key next : Name) (label : List ℕ) (d : Doc) (ms : Members) where
  abbrev behind : Members
  behind = member next label d ms

  -- a key that clashes with a later one clashes with the next
  next_clash : {other : Name} → Sorted key_order (keys_of behind) → Upto key_order key (keys_of behind) → HasKey other behind → clashing key other ≡ true
      → clashing key next ≡ true
  next_clash s u first c = c
  next_clash {other} (sorted_more v s) (upto_more h u) (later x) c = between (pointer_of key) (pointer_of next) (pointer_of other) h (upto_key x v) c

  -- so of a key and those that clash with it the smallest is the key itself, if it clashes with the next
  itself : Sorted key_order (keys_of behind) → Upto key_order key (keys_of behind) → bad_tilde key ≡ false → any_bad_key behind ≡ false
      → key_if (clashing key next) key ≡ with_others key (least_key (clashing key) behind)
  itself s u good others-good =
      go (least_key (clashing key) behind) (key_least (clashing key) (λ other. clashing key other ≡ true) (λ other. (λ e. e, λ e. e)) behind)
    where
      go : (o : Option Name) → Least (λ other. HasKey other behind × (clashing key other ≡ true)) o → key_if (clashing key next) key ≡ with_others key o
      go none h = by_test (clashing key next) (λ c. absurd (h next (first, c))) (λ c. rw c)
      go (some other) ((x, c), h) =
          rw (next_clash s u x c, prefix_first key other good (good_key others-good x) c (upto_key x u))

-- ---- the theorem

pub neighbours : (ms : Members) → Sorted key_order (keys_of ms) → any_bad_key ms ≡ false → least_leading ms ≡ least_clash ms
neighbours empty s g = refl
neighbours (member key label d empty) s g = refl
neighbours (member key label d (member next label₂ e ms)) (sorted_more u s) g =
    let (good, rest) = or_false (bad_tilde key) (any_bad_key (member next label₂ e ms)) g in
    ap₂ smaller_key (itself key next label₂ e ms s u good rest) (neighbours (member next label₂ e ms) s rest)
