-- The smallest key: what `least_key` and `least_clash` find, in words (`key_least`, `clash_least`), and when they find one, by the tests over all keys
-- (`key_some`, `key_none`, `clash_some`, `clash_none`).
-- Assumes nothing.
use mathlib.Core.Path.{◌≡◌, refl, sym, ap, subst, ◌∙◌}
use mathlib.Core.Bool.{Bool, true, false, ◌||◌, true≢false}
use mathlib.Core.Logic.{◌↔◌, ◌⊎◌, inl, inr}
use mathlib.Core.List.{List}
use mathlib.Core.Option.{Option, none, some}
use Prim.Native.Nat.{ℕ}
use Rattle.laws.proofs.Bools.{by_test, or_either, or_false}
use Rattle.laws.proofs.Branches.{if_true}
use Rattle.laws.specs.Order.{before}
use Rattle.laws.proofs.Orders.{before_irrefl, before_trans}
use Rattle.text.specs.Doc.{Name, Doc, Members, empty, member}
use Rattle.contact.specs.Pointer.{pointer_of, bad_tilde, clash}
use Rattle.contact.specs.Patch.{entries_of, Walk, any_bad_key, any_own, clash_with, any_clash, any_walk}
use Rattle.contact.specs.Faults.{smaller_key, key_if, least_key, with_others, least_clash, own_key, walks_to}
use Rattle.contact.specs.Entries.{Prefix}
use Rattle.contact.specs.Conditions.{HasKey, first, later, first_key, later_on, TwoKeys}
use Rattle.contact.proofs.Patching.Names.{by_name, before_total}
use Rattle.contact.proofs.Patching.Apart.{clash_iff}

-- ---- the smallest of which something holds

-- of none, or of this one and of none before it
abbrev pub Least : (Name → Type 0) → Option Name → Type 0
Least T none = (k : Name) → ¬ T k
Least T (some k) = T k × ((j : Name) → T j → before j k ≡ false)

-- not before the one, which is not before the other
before_false : (j b a : Name) → before j b ≡ false → before b a ≡ false → before j a ≡ false
before_false j b a h k =
    by_test (before j a)
    (λ x. absurd (by_name a b
    (λ e. true≢false (sym x ∙ ap (before j) e ∙ h))
    (λ ne. true≢false (sym (before_trans j a b x (before_total b a (λ e. ne (sym e)) k)) ∙ h))))
    (λ x. x)

module _ (T U : Name → Type 0) where
  abbrev Either : Name → Type 0
  Either k = T k ⊎ U k

  pub least_smaller : (a b : Option Name) → Least T a → Least U b → Least Either (smaller_key a b)
  least_smaller none none h k = λ j x. neither j x
    where
      neither : (j : Name) → Either j → ⊥
      neither j (inl t) = h j t
      neither j (inr u) = k j u
  least_smaller none (some b) h k = (inr k.0, go)
    where
      go : (j : Name) → Either j → before j b ≡ false
      go j (inl t) = absurd (h j t)
      go j (inr u) = k.1 j u
  least_smaller (some a) none h k = (inl h.0, go)
    where
      go : (j : Name) → Either j → before j a ≡ false
      go j (inl t) = h.1 j t
      go j (inr u) = absurd (k j u)
  least_smaller (some a) (some b) h k = if_true (Least Either) (before b a) (λ x. (inr k.0, on_b x)) (λ x. (inl h.0, on_a x))
    where
      on_a : before b a ≡ false → (j : Name) → Either j → before j a ≡ false
      on_a x j (inl t) = h.1 j t
      on_a x j (inr u) = before_false j b a (k.1 j u) x

      on_b : before b a ≡ true → (j : Name) → Either j → before j b ≡ false
      on_b x j (inl t) = by_test (before j b) (λ y. absurd (true≢false (sym (before_trans j b a y x) ∙ h.1 j t))) (λ y. y)
      on_b x j (inr u) = k.1 j u

  pub least_map : ((k : Name) → T k → U k) → ((k : Name) → U k → T k) → (o : Option Name) → Least T o → Least U o
  least_map to from none h = λ k u. h k (from k u)
  least_map to from (some k) h = (to k h.0, λ j u. h.1 j (from j u))

-- there is one at the most
pub least_one : (T : Name → Type 0) (o p : Option Name) → Least T o → Least T p → o ≡ p
least_one T none none h k = refl
least_one T none (some b) h k = absurd (h b k.0)
least_one T (some a) none h k = absurd (k a h.0)
least_one T (some a) (some b) h k =
    by_name a b
    (λ e. ap (λ (n : Name). some n) e)
    (λ ne. absurd (true≢false (sym (before_total a b ne (k.1 a h.0)) ∙ h.1 b k.0)))

-- ---- a test of one key

abbrev pub any_key : (Name → Bool) → Members → Bool
any_key f empty = false
any_key f (member key label d ms) = f key || any_key f ms

no_key_lem : (k : Name) → ¬ HasKey k empty
no_key_lem k = elim [ ]

module _ (f : Name → Bool) (T : Name → Type 0) (h : (key : Name) → (f key ≡ true) ↔ T key) where
  if_least : (key : Name) → Least (λ k. (k ≡ key) × T k) (key_if (f key) key)
  if_least key =
      by_test (f key)
      (λ x. simp x ((refl, (h key).0 x), λ j (e, t). ap (λ (n : Name). before n key) e ∙ before_irrefl key))
      (λ x. simp x (λ k (e, t). true≢false (sym ((h key).1 (subst T e t)) ∙ x)))

  pub key_least : (ms : Members) → Least (λ k. HasKey k ms × T k) (least_key f ms)
  key_least empty = λ k (x, t). no_key_lem k x
  key_least (member key label d ms) =
      least_map (λ k. ((k ≡ key) × T k) ⊎ (HasKey k ms × T k)) (λ k. HasKey k (member key label d ms) × T k) to from
      (smaller_key (key_if (f key) key) (least_key f ms))
      (least_smaller (λ k. (k ≡ key) × T k) (λ k. HasKey k ms × T k) (key_if (f key) key) (least_key f ms) (if_least key) (key_least ms))
    where
      to : (k : Name) → ((k ≡ key) × T k) ⊎ (HasKey k ms × T k) → HasKey k (member key label d ms) × T k
      to k (inl (e, t)) = (subst (λ (n : Name). HasKey n (member key label d ms)) (sym e) first, t)
      to k (inr (x, t)) = (later x, t)

      from : (k : Name) → HasKey k (member key label d ms) × T k → ((k ≡ key) × T k) ⊎ (HasKey k ms × T k)
      from k (first, t) = inl (refl, t)
      from k (later x, t) = inr (x, t)

-- ---- when there is one

smaller_left : (a : Name) (o : Option Name) → (k : Name) × (smaller_key (some a) o ≡ some k)
smaller_left a none = (a, refl)
smaller_left a (some b) = by_test (before b a) (λ x. (b, rw x)) (λ x. (a, rw x))

smaller_right : (o : Option Name) (b : Name) → (k : Name) × (smaller_key o (some b) ≡ some k)
smaller_right none b = (b, refl)
smaller_right (some a) b = smaller_left a (some b)

module _ (f : Name → Bool) where
  pub key_some : (ms : Members) → any_key f ms ≡ true → (k : Name) × (least_key f ms ≡ some k)
  key_some empty e = absurd (true≢false (sym e))
  key_some (member key label d ms) e =
      or_either (f key) (any_key f ms) e
      (λ x. simp x (smaller_left key (least_key f ms)))
      (λ x. let (k, q) = key_some ms x in rw q (smaller_right (key_if (f key) key) k))

  pub key_none : (ms : Members) → any_key f ms ≡ false → least_key f ms ≡ none
  key_none empty e = refl
  key_none (member key label d ms) e = let (x, y) = or_false (f key) (any_key f ms) e in simp (x, key_none ms y)

-- ---- the tests over all entries are tests of keys

pub bad_keys : (ms : Members) → any_key bad_tilde ms ≡ any_bad_key ms
bad_keys empty = refl
bad_keys (member key label d ms) = ap (λ (b : Bool). bad_tilde key || b) (bad_keys ms)

pub own_keys : (ms : Members) → any_key own_key ms ≡ any_own (entries_of ms)
own_keys empty = refl
own_keys (member key label d ms) = ap (λ (b : Bool). own_key key || b) (own_keys ms)

pub walk_keys : (is : Walk → Bool) (x : Doc) (ms : Members) → any_key (walks_to is x) ms ≡ any_walk is (entries_of ms) x
walk_keys is x empty = refl
walk_keys is x (member key label d ms) = ap (λ (b : Bool). walks_to is x key || b) (walk_keys is x ms)

-- ---- two keys that clash

-- the pointer of the one key is a prefix of the other's
abbrev pub Clashing : Name → Name → Type 0
Clashing key other = Prefix (pointer_of key) (pointer_of other) ⊎ Prefix (pointer_of other) (pointer_of key)

clashing_swap : (key other : Name) → Clashing key other → Clashing other key
clashing_swap key other (inl x) = inr x
clashing_swap key other (inr x) = inl x

-- some other member's key clashes with this one
abbrev pub InPair : Members → Name → Type 0
InPair ms k = (other : Name) × TwoKeys k other ms × Clashing k other

no_pair : (k : Name) → ¬ InPair empty k
no_pair k (other, inl x, c) = elim x [ ]
no_pair k (other, inr x, c) = elim x [ ]

module _ (key : Name) (label : List ℕ) (d : Doc) (ms : Members) where
  -- the first key, if one behind it clashes with it
  abbrev IsFirst : Name → Type 0
  IsFirst k = (k ≡ key) × ((j : Name) × HasKey j ms × Clashing key j)

  -- one behind it that does
  abbrev IsOther : Name → Type 0
  IsOther k = HasKey k ms × Clashing key k

  abbrev others : Option Name
  others = least_key (λ k. clash (pointer_of key) (pointer_of k)) ms

  others_least : Least IsOther others
  others_least = key_least (λ k. clash (pointer_of key) (pointer_of k)) (Clashing key) (λ k. clash_iff (pointer_of key) (pointer_of k)) ms

  with_least : (o : Option Name) → Least IsOther o → Least (λ k. IsFirst k ⊎ IsOther k) (with_others key o)
  with_least none h = least_smaller IsFirst IsOther none none (λ k (e, (j, x, c)). h j (x, c)) h
  with_least (some j) h = least_smaller IsFirst IsOther (some key) (some j) ((refl, (j, h.0.0, h.0.1)), λ k (e, x). ap (λ (n : Name). before n key) e ∙ before_irrefl key) h

  pair_to : (k : Name) → (IsFirst k ⊎ IsOther k) ⊎ InPair ms k → InPair (member key label d ms) k
  pair_to k (inl (inl (e, (j, x, c)))) = subst (InPair (member key label d ms)) (sym e) (j, inl (first_key x), c)
  pair_to k (inl (inr (x, c))) = (key, inr (first_key x), clashing_swap key k c)
  pair_to k (inr (other, inl x, c)) = (other, inl (later_on x), c)
  pair_to k (inr (other, inr x, c)) = (other, inr (later_on x), c)

  pair_from : (k : Name) → InPair (member key label d ms) k → (IsFirst k ⊎ IsOther k) ⊎ InPair ms k
  pair_from k (other, inl (first_key x), c) = inl (inl (refl, (other, x, c)))
  pair_from k (other, inl (later_on x), c) = inr (other, inl x, c)
  pair_from k (other, inr (first_key x), c) = inl (inr (x, clashing_swap k key c))
  pair_from k (other, inr (later_on x), c) = inr (other, inr x, c)

pub clash_least : (ms : Members) → Least (InPair ms) (least_clash ms)
clash_least empty = no_pair
clash_least (member key label d ms) =
    let o = others key label d ms in
    least_map (λ k. (IsFirst key label d ms k ⊎ IsOther key label d ms k) ⊎ InPair ms k) (InPair (member key label d ms))
    (pair_to key label d ms) (pair_from key label d ms) (smaller_key (with_others key o) (least_clash ms))
    (least_smaller (λ k. IsFirst key label d ms k ⊎ IsOther key label d ms k) (InPair ms) (with_others key o) (least_clash ms)
    (with_least key label d ms o (others_least key label d ms)) (clash_least ms))

with_key_lem : (key : Name) (ms : Members) → clash_with (pointer_of key) (entries_of ms) ≡ any_key (λ k. clash (pointer_of key) (pointer_of k)) ms
with_key_lem key empty = refl
with_key_lem key (member k label d ms) = ap (λ (b : Bool). clash (pointer_of key) (pointer_of k) || b) (with_key_lem key ms)

pub clash_some : (ms : Members) → any_clash (entries_of ms) ≡ true → (k : Name) × (least_clash ms ≡ some k)
clash_some empty e = absurd (true≢false (sym e))
clash_some (member key label d ms) e =
    or_either (clash_with (pointer_of key) (entries_of ms)) (any_clash (entries_of ms)) e
    (λ x. let (j, q) = key_some (λ k. clash (pointer_of key) (pointer_of k)) ms (sym (with_key_lem key ms) ∙ x) in
    let (a, p) = smaller_left key (some j) in
    rw (q, p) (smaller_left a (least_clash ms)))
    (λ x. let (k, q) = clash_some ms x in rw q (smaller_right (with_others key (others key label d ms)) k))

pub clash_none : (ms : Members) → any_clash (entries_of ms) ≡ false → least_clash ms ≡ none
clash_none empty e = refl
clash_none (member key label d ms) e =
    let (x, y) = or_false (clash_with (pointer_of key) (entries_of ms)) (any_clash (entries_of ms)) e in
    rw (key_none (λ k. clash (pointer_of key) (pointer_of k)) ms (sym (with_key_lem key ms) ∙ x), clash_none ms y)
