-- One row: the number that the definition gives it is the smallest that the value breaks, or 0 where it breaks none.
--     RowSays, row-says    what the row's number says of the value
-- Assumes nothing.
use Prim.Native.Nat.{ℕ, ◌≤◌}
use mathlib.Core.Path.{◌≡◌, refl, subst}
use mathlib.Core.Bool.{Bool, true, false, not, cond, ◌&&◌}
use mathlib.Core.List.Memᴰ.{cases_cons as cases}
use mathlib.Core.List.Memᴰ.{head}
use mathlib.Core.List.Memᴰ.{not-nil}
use mathlib.Core.List.Memᴰ.{tail}
use mathlib.Core.List.{List, [], ◌∷◌, Memᴰ as In}
use mathlib.Core.Logic.{◌⊎◌, inl, inr, ⊎_elim}
use native.Mathlib.Omega.{arith}
use lib.Dec.{lit≤}
use Rattle.laws.proofs.Decides.{Decides, holds, fails, told, denied, itself, swap, equal, bytes_same, both, unless, grants}
use Rattle.text.specs.Strings.{content_of}
use Rattle.text.specs.Doc.{Doc, Members, kind_of, token_of, children_of}
use Rattle.contact.specs.Schema.{any_string, exactly, flag, yes, count, time, Ty, any, simple, object_of, list_of, map_of, by_type, Known, properties}
use Rattle.contact.specs.Judge.{lacking, lacks, allowed, breaks_rule, row_number}
use Rattle.contact.specs.AskedKinds.{Suits}
use Rattle.contact.specs.BetweenMembers.{HasMember}
use Rattle.contact.specs.Breaches.{Under, Lacks, Unallowed, other_string, not_true, no_count, no_time, UnallowedKey, Unruly, between, BreaksLine, kind, missing, value, badly_keyed, rule}
use Rattle.contact.specs.Breaches as B
use Rattle.contact.proofs.Judging.SimpleValues.{count_test}
use Rattle.contact.proofs.Judging.Times.{time_test}
use Rattle.contact.proofs.Judging.Table.{fits_test}
use Rattle.contact.proofs.Judging.BetweenMembers.{there_test, between_test}

-- ---- 12

record Missing (ks : List Known) (ms : Members) : Type 0 where
  line : Known
  listed : In line ks
  mandatory : line.mandatory ≡ true
  nowhere : (d : Doc) → ¬ HasMember ms line.spelling d

lacking_test : (ks : List Known) (ms : Members) → Decides (Missing ks ms) (lacking ks ms)
unfolding lacking
lacking_test [] ms = fails (λ h. not-nil h.listed)
lacking_test (k ∷ ks) ms =
    swap (⊎_elim now further) parts (grants (both (itself k.mandatory) (unless (there_test k.spelling ms))) (lacking_test ks ms))
  where
    now : (k.mandatory ≡ true) × (((d : Doc) × HasMember ms k.spelling d) → ⊥) → Missing (k ∷ ks) ms
    now h = record { line = k; listed = head refl; mandatory = h.0; nowhere = λ d x. h.1 (d, x) }

    further : Missing ks ms → Missing (k ∷ ks) ms
    further h = record { line = h.line; listed = tail h.listed; mandatory = h.mandatory; nowhere = h.nowhere }

    parts : Missing (k ∷ ks) ms → ((k.mandatory ≡ true) × (((d : Doc) × HasMember ms k.spelling d) → ⊥)) ⊎ Missing ks ms
    parts h =
        ⊎_elim
        (λ (e : h.line ≡ k). inl (
          subst (λ (x : Known). x.mandatory ≡ true) e h.mandatory,
          subst (λ (x : Known). ((d : Doc) × HasMember ms x.spelling d) → ⊥) e (λ x. h.nowhere x.0 x.1),
        ))
        (λ (i : In h.line ks). inr (record { line = h.line; listed = i; mandatory = h.mandatory; nowhere = h.nowhere }))
        (cases h.listed)

lacks_test : (ty : Ty) (ms : Members) → Decides (Lacks ty ms) (lacks ty ms)
lacks_test any ms = fails (λ h. elim h [ ])
lacks_test (simple l) ms = fails (λ h. elim h [ ])
lacks_test (object_of o) ms =
    swap
    (λ h. B.lacks_one h.listed h.mandatory h.nowhere)
    (λ h. elim h [ B.lacks_one i m f ↦ record { line = _; listed = i; mandatory = m; nowhere = f } ])
    (lacking_test (properties o) ms)
lacks_test (list_of ty) ms = fails (λ h. elim h [ ])
lacks_test (map_of keys ty) ms = fails (λ h. elim h [ ])
lacks_test (by_type usual special) ms = fails (λ h. elim h [ ])

-- ---- 13

unallowed_test : (ty : Ty) (v : Doc) → Decides (Unallowed ty v) (not (allowed ty v))
unallowed_test any v = fails (λ h. elim h [ ])
unallowed_test (simple any_string) v = fails (λ h. elim h [ ])
unallowed_test (simple (exactly n)) v =
    swap other_string (λ h. elim h [ other_string f ↦ f ]) (unless (bytes_same (content_of (token_of v)) n))
unallowed_test (simple flag) v = fails (λ h. elim h [ ])
unallowed_test (simple yes) v = swap not_true (λ h. elim h [ not_true f ↦ f ]) (unless (equal (kind_of v) 3))
unallowed_test (simple (count low high)) v =
    swap no_count (λ h. elim h [ no_count f ↦ f ]) (unless (count_test low high (token_of v)))
unallowed_test (simple time) v = swap no_time (λ h. elim h [ no_time f ↦ f ]) (unless (time_test (content_of (token_of v))))
unallowed_test (object_of o) v = fails (λ h. elim h [ ])
unallowed_test (list_of ty) v = fails (λ h. elim h [ ])
unallowed_test (map_of keys ty) v = fails (λ h. elim h [ ])
unallowed_test (by_type usual special) v = fails (λ h. elim h [ ])

-- ---- 14

unruly_test : (ty : Ty) (ms : Members) → Decides (Unruly ty ms) (breaks_rule ty ms)
unruly_test any ms = fails (λ h. elim h [ ])
unruly_test (simple l) ms = fails (λ h. elim h [ ])
unruly_test (object_of o) ms = swap between (λ h. elim h [ between b ↦ b ]) (between_test o ms)
unruly_test (list_of ty) ms = fails (λ h. elim h [ ])
unruly_test (map_of keys ty) ms = fails (λ h. elim h [ ])
unruly_test (by_type usual special) ms = fails (λ h. elim h [ ])

-- ---- the row's number

pub data RowSays (ty : Ty) (u : Under) (v : Doc) : (number : ℕ) → Type 0 where
  clean : Suits ty (kind_of v) → ((m : ℕ) → ¬ BreaksLine m ty u v) → RowSays ty u v 0
  worst : {n : ℕ} → 1 ≤ n → BreaksLine n ty u v → ((m : ℕ) → BreaksLine m ty u v → n ≤ m) → RowSays ty u v n

module _ {ty : Ty} {u : Under} {v : Doc} where
  -- what is left to break, as the numbers rise
  kind_only : ¬ Suits ty (kind_of v) → (m : ℕ) → BreaksLine m ty u v → m ≡ 11
  kind_only f m (kind _) = refl
  kind_only f m (missing s _) = absurd (f s)
  kind_only f m (value s _) = absurd (f s)
  kind_only f m (badly_keyed s _) = absurd (f s)
  kind_only f m (rule s _) = absurd (f s)

  from_12 : Suits ty (kind_of v) → (m : ℕ) → BreaksLine m ty u v → 12 ≤ m
  from_12 s m (kind f) = absurd (f s)
  from_12 s m (missing _ _) = lit≤ tt
  from_12 s m (value _ _) = lit≤ tt
  from_12 s m (badly_keyed _ _) = lit≤ tt
  from_12 s m (rule _ _) = lit≤ tt

  from_13 : Suits ty (kind_of v) → ¬ Lacks ty (children_of v) → (m : ℕ) → BreaksLine m ty u v → 13 ≤ m
  from_13 s l m (kind f) = absurd (f s)
  from_13 s l m (missing _ h) = absurd (l h)
  from_13 s l m (value _ _) = lit≤ tt
  from_13 s l m (badly_keyed _ _) = lit≤ tt
  from_13 s l m (rule _ _) = lit≤ tt

  rule_only : Suits ty (kind_of v) → ¬ Lacks ty (children_of v) → ¬ UnallowedKey u → ¬ Unallowed ty v → (m : ℕ) → BreaksLine m ty u v → (m ≡ 14) × Unruly ty (children_of v)
  rule_only s l k a m (kind f) = absurd (f s)
  rule_only s l k a m (missing _ h) = absurd (l h)
  rule_only s l k a m (value _ h) = absurd (a h)
  rule_only s l k a m (badly_keyed _ h) = absurd (k h)
  rule_only s l k a m (rule _ h) = (refl, h)

  says : {f l r : Bool} (k a : Bool) → Decides (Suits ty (kind_of v)) f → Decides (Lacks ty (children_of v)) l → Decides (UnallowedKey u) (not k)
      → Decides (Unallowed ty v) (not a) → Decides (Unruly ty (children_of v)) r → RowSays ty u v (cond f (cond l 12 (cond (k && a) (cond r 14 0) 13)) 11)
  says k a (fails f) l bk ua r = worst (lit≤ tt) (kind f) (λ m b. omega (arith, kind_only f m b))
  says k a (holds s) (holds l) bk ua r = worst (lit≤ tt) (missing s l) (from_12 s)
  says false a (holds s) (fails l) bk ua r = worst (lit≤ tt) (badly_keyed s (told bk refl)) (from_13 s l)
  says true false (holds s) (fails l) bk ua r = worst (lit≤ tt) (value s (told ua refl)) (from_13 s l)
  says true true (holds s) (fails l) bk ua (holds r) =
      worst (lit≤ tt) (rule s r) (λ m b. omega (arith, (rule_only s l (denied bk refl) (denied ua refl) m b).0))
  says true true (holds s) (fails l) bk ua (fails r) = clean s (λ m b. r (rule_only s l (denied bk refl) (denied ua refl) m b).1)

-- the key is allowed by the test just if it isn't bad
pub row_says : (ty : Ty) (u : Under) (key : Bool) (v : Doc) → Decides (UnallowedKey u) (not key) → RowSays ty u v (row_number ty key v)
unfolding row_number
row_says ty u key v k =
    says key (allowed ty v) (fits_test ty (kind_of v)) (lacks_test ty (children_of v)) k (unallowed_test ty v) (unruly_test ty (children_of v))
