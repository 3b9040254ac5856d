-- 22 to 26 of a document and the members of a PatchObject: `fault_in` finds the smallest number that is broken and the smallest key that breaks it
-- (`fault_iff`), and nothing exactly if no key breaks any (`kept_iff`); in whatever order the members stand (`fault_order`, of one test `key_order_same`,
-- of clashes `clash_order`).
-- Assumes nothing.
use mathlib.Core.Path.{◌≡◌, refl, sym, ap, ap₂, subst, ◌∙◌}
use mathlib.Core.Bool.{Bool, true, true≢false}
use mathlib.Core.Logic.{◌↔◌, ◌⊎◌, inl, inr}
use mathlib.Core.List.{List, [], ◌∷◌}
use mathlib.Core.Option.{Option, none, some}
use Prim.Native.Nat.{ℕ, suc, ◌≤◌}
use native.Mathlib.Decide.{dec_le}
use native.Mathlib.Omega.{arith}
use Rattle.laws.specs.Order.{same, before, Earlier}
use Rattle.laws.proofs.Bools.{by_test}
use Rattle.laws.proofs.Orders.{same_eq, before_earlier}
use Rattle.text.specs.Text.{bytes}
use Rattle.text.specs.Doc.{Name, Doc, Members, member}
use Rattle.contact.specs.Pointer.{Pointer, last, down, pointer_of, first_part, parts, bad_tilde}
use Rattle.contact.specs.PointerText.{PointerText}
use Rattle.contact.specs.Patch.{is_in_array, is_no_object}
use Rattle.contact.specs.Faults.{PatchFault, all_kept, broken_by, least_key, least_clash, own_key, walks_to, or_else_fault, fault_in}
use Rattle.contact.specs.Entries.{Prefix, Shuffled, as_it_is, keep_first, swap_first, and_on}
use Rattle.contact.specs.Conditions.{LooseTilde, HasKey, first, later, HasKeys, first_key, later_on, TwoKeys, EntersArray, LosesWay, BreaksWith, bad_key, own_localizations, clashing, entering_array, losing_way, Applicable, FirstBroken}
use Rattle.contact.proofs.Patching.Names.{same_yes, by_name, before_total}
use Rattle.contact.proofs.Patching.Tilde.{tilde_iff}
use Rattle.contact.proofs.Patching.Pointers.{key_iff}
use Rattle.contact.proofs.Patching.Ways.{array_test, lost_test}
use Rattle.contact.proofs.Patching.Least.{Least, least_map, least_one, key_least, InPair, clash_least}

-- two keys of which neither comes before the other are one
pub one_key : (a b : Name) → ¬ Earlier a b → ¬ Earlier b a → a ≡ b
one_key a b h k =
    by_name a b (λ e. e)
    (λ ne. by_test (before a b)
    (λ x. absurd (h ((before_earlier a b).0 x)))
    (λ x. absurd (k ((before_earlier b a).0 (before_total a b ne x)))))

-- ---- 23 by the first part of a pointer

abbrev head_or : Name → List Name → Name
head_or n [] = n
head_or n (m ∷ ms) = m

first_iff : (n : Name) (p : Pointer) → (same (first_part p) n ≡ true) ↔ Prefix (last n) p
first_iff n (last m) = (λ e. ([], ap (λ (k : Name). k ∷ []) (same_eq m n e)), λ (r, e). same_yes (ap (head_or m) e))
first_iff n (down m p) = (λ e. (parts p, ap (λ (k : Name). k ∷ parts p) (same_eq m n e)), λ (r, e). same_yes (ap (head_or m) e))

-- the first part of the pointer is `localizations`
abbrev IsOwn : Pointer → Type 0
IsOwn p = Prefix (last (bytes "localizations")) p

-- ---- 24: both keys of a pair are there

first_there : {key other : Name} {ms : Members} → HasKeys key other ms → HasKey key ms
first_there (first_key x) = first
first_there (later_on x) = later (first_there x)

second_there : {key other : Name} {ms : Members} → HasKeys key other ms → HasKey other ms
second_there (first_key x) = later x
second_there (later_on x) = later (second_there x)

both_there : {key other : Name} {ms : Members} → TwoKeys key other ms → HasKey key ms × HasKey other ms
both_there (inl x) = (first_there x, second_there x)
both_there (inr x) = (second_there x, first_there x)

-- a key that breaks a condition is one of the members'
pub breaks_there : {d : Doc} {ms : Members} {n : ℕ} {key : Name} → BreaksWith d ms n key → HasKey key ms
breaks_there (bad_key x t) = x
breaks_there (own_localizations x w t) = x
breaks_there (clashing x w v t) = (both_there x).0
breaks_there (entering_array x w t) = x
breaks_there (losing_way x w t) = x

module _ (d : Doc) (ms : Members) where
  abbrev B : ℕ → Name → Type 0
  B n key = BreaksWith d ms n key

  -- ---- each condition by its test

  pub least_22 : Least (B 22) (least_key bad_tilde ms)
  least_22 = least_map (λ k. HasKey k ms × LooseTilde k) (B 22) (λ k (x, t). bad_key x t) from (least_key bad_tilde ms) (key_least bad_tilde LooseTilde tilde_iff ms)
    where
      from : (k : Name) → B 22 k → HasKey k ms × LooseTilde k
      from k (bad_key x t) = (x, t)

  -- each key writes its pointer, if none has a loose `~`
  module _ (no-22 : (key : Name) → ¬ B 22 key) where
    writes : (key : Name) → HasKey key ms → PointerText key (pointer_of key)
    writes key x = (key_iff key (pointer_of key)).1 (λ l. no-22 key (bad_key x l), refl)

    wrote : {key : Name} {p : Pointer} (T : Pointer → Type 0) → PointerText key p → T p → T (pointer_of key)
    wrote {key} {p} T w t = subst T ((key_iff key p).0 w).1 t

    pub least_23 : Least (B 23) (least_key own_key ms)
    least_23 =
        least_map (λ k. HasKey k ms × IsOwn (pointer_of k)) (B 23) (λ k (x, t). own_localizations x (writes k x) t) from (least_key own_key ms)
        (key_least own_key (λ k. IsOwn (pointer_of k)) (λ k. first_iff (bytes "localizations") (pointer_of k)) ms)
      where
        from : (k : Name) → B 23 k → HasKey k ms × IsOwn (pointer_of k)
        from k (own_localizations x w t) = (x, wrote IsOwn w t)

    pub least_24 : Least (B 24) (least_clash ms)
    least_24 = least_map (InPair ms) (B 24) to from (least_clash ms) (clash_least ms)
      where
        to : (k : Name) → InPair ms k → B 24 k
        to k (other, two, c) = let (x, y) = both_there two in clashing two (writes k x) (writes other y) c

        from : (k : Name) → B 24 k → InPair ms k
        from k (clashing {other = other} {p = p} {q = q} two w v c) =
            (other, two, wrote (λ a. Prefix a (pointer_of other) ⊎ Prefix (pointer_of other) a) w (wrote (λ b. Prefix p b ⊎ Prefix b p) v c))

    pub least_25 : Least (B 25) (least_key (walks_to is_in_array d) ms)
    least_25 =
        least_map (λ k. HasKey k ms × EntersArray (pointer_of k) d) (B 25) (λ k (x, t). entering_array x (writes k x) t) from (least_key (walks_to is_in_array d) ms)
        (key_least (walks_to is_in_array d) (λ k. EntersArray (pointer_of k) d) (λ k. array_test (pointer_of k) d) ms)
      where
        from : (k : Name) → B 25 k → HasKey k ms × EntersArray (pointer_of k) d
        from k (entering_array x w t) = (x, wrote (λ p. EntersArray p d) w t)

    pub least_26 : Least (B 26) (least_key (walks_to is_no_object d) ms)
    least_26 =
        least_map (λ k. HasKey k ms × LosesWay (pointer_of k) d) (B 26) (λ k (x, t). losing_way x (writes k x) t) from (least_key (walks_to is_no_object d) ms)
        (key_least (walks_to is_no_object d) (λ k. LosesWay (pointer_of k) d) (λ k. lost_test (pointer_of k) d) ms)
      where
        from : (k : Name) → B 26 k → HasKey k ms × LosesWay (pointer_of k) d
        from k (losing_way x w t) = (x, wrote (λ p. LosesWay p d) w t)

  -- ---- the smallest number first

  -- no condition of a number below n is broken
  abbrev AtLeast : ℕ → Type 0
  AtLeast n = (m : ℕ) (key : Name) → B m key → n ≤ m

  pub from_22 : AtLeast 22
  from_22 m key (bad_key x t) = omega arith
  from_22 m key (own_localizations x w t) = omega arith
  from_22 m key (clashing x w v t) = omega arith
  from_22 m key (entering_array x w t) = omega arith
  from_22 m key (losing_way x w t) = omega arith

  pub up_to_26 : (m : ℕ) (key : Name) → B m key → m ≤ 26
  up_to_26 m key (bad_key x t) = omega arith
  up_to_26 m key (own_localizations x w t) = omega arith
  up_to_26 m key (clashing x w v t) = omega arith
  up_to_26 m key (entering_array x w t) = omega arith
  up_to_26 m key (losing_way x w t) = omega arith

  raise : (n : ℕ) → AtLeast n → ((key : Name) → ¬ B n key) → AtLeast (suc n)
  raise n h free m key b = elim (dec_le (suc n) m) [
    | yes k ↦ k
    | no k ↦ let i : n ≤ m = h m key b in let e : m ≡ n = omega arith in absurd (free key (subst (λ (x : ℕ). B x key) e b))
  ]

  -- what is found stands for this
  abbrev pub Due : PatchFault → Type 0
  Due all_kept = Applicable d ms
  Due (broken_by n key) = FirstBroken d ms n key

  or_else : (n : ℕ) (o : Option Name) (rest : PatchFault) → AtLeast n → Least (B n) o
      → (((key : Name) → ¬ B n key) → AtLeast (suc n) → Due rest) → Due (or_else_fault n o rest)
  or_else n none rest h l go = go l (raise n h l)
  or_else n (some key) rest h l go = smallest
    where
      smallest : FirstBroken d ms n key
      smallest = record { smallest = record { breaks = l.0; no_earlier = λ other b e. true≢false (sym ((before_earlier other key).1 e) ∙ l.1 other b) }; least = h }

  pub fault_found : Due (fault_in d ms)
  unfolding fault_in
  fault_found =
      or_else 22 (least_key bad_tilde ms) _ from_22 least_22 λ no-22 h23.
      or_else 23 (least_key own_key ms) _ h23 (least_23 no-22) λ no-23 h24.
      or_else 24 (least_clash ms) _ h24 (least_24 no-22) λ no-24 h25.
      or_else 25 (least_key (walks_to is_in_array d) ms) _ h25 (least_25 no-22) λ no-25 h26.
      or_else 26 (least_key (walks_to is_no_object d) ms) all_kept h26 (least_26 no-22) λ no-26 h27 m key b.
      let i : 27 ≤ m = h27 m key b in let j : m ≤ 26 = up_to_26 m key b in omega arith

  -- ---- the theorems

  fault_so : (f : PatchFault) → Due f → (n : ℕ) (key : Name) → FirstBroken d ms n key → f ≡ broken_by n key
  fault_so all_kept u n key s = absurd (u n key s.smallest.breaks)
  fault_so (broken_by m other) u n key s =
      let h : n ≤ m = s.least m other u.smallest.breaks in
      let k : m ≤ n = u.least n key s.smallest.breaks in
      let e : m ≡ n = omega arith in
      let v : FirstBroken d ms n other = subst (λ (x : ℕ). FirstBroken d ms x other) e u in
      let q : other ≡ key = one_key other key (s.smallest.no_earlier other v.smallest.breaks) (v.smallest.no_earlier key s.smallest.breaks) in
      ap₂ broken_by e q

  kept_so : (f : PatchFault) → Due f → Applicable d ms → f ≡ all_kept
  kept_so all_kept u a = refl
  kept_so (broken_by n key) u a = absurd (a n key u.smallest.breaks)

  pub fault_iff : (n : ℕ) (key : Name) → (fault_in d ms ≡ broken_by n key) ↔ FirstBroken d ms n key
  fault_iff n key = (λ e. subst Due e fault_found, fault_so (fault_in d ms) fault_found n key)

  pub kept_iff : (fault_in d ms ≡ all_kept) ↔ Applicable d ms
  kept_iff = (λ e. subst Due e fault_found, kept_so (fault_in d ms) fault_found)

-- ---- the members in another order

pub shuffled_sym : {ms ns : Members} → Shuffled ms ns → Shuffled ns ms
shuffled_sym as_it_is = as_it_is
shuffled_sym (keep_first σ) = keep_first (shuffled_sym σ)
shuffled_sym swap_first = swap_first
shuffled_sym (and_on σ τ) = and_on (shuffled_sym τ) (shuffled_sym σ)

shuffled_key : {k : Name} {ms ns : Members} → Shuffled ms ns → HasKey k ms → HasKey k ns
shuffled_key as_it_is x = x
shuffled_key (keep_first σ) first = first
shuffled_key (keep_first σ) (later x) = later (shuffled_key σ x)
shuffled_key swap_first first = later first
shuffled_key swap_first (later first) = first
shuffled_key swap_first (later (later x)) = later (later x)
shuffled_key (and_on σ τ) x = shuffled_key τ (shuffled_key σ x)

two_later : {a b n : Name} {label : List ℕ} {d : Doc} {ms : Members} → TwoKeys a b ms → TwoKeys a b (member n label d ms)
two_later (inl x) = inl (later_on x)
two_later (inr x) = inr (later_on x)

two_swap : {a b : Name} {ms : Members} → TwoKeys a b ms → TwoKeys b a ms
two_swap (inl x) = inr x
two_swap (inr x) = inl x

two_on : (a b : Name) (ms ns : Members) → ((x y : Name) → HasKeys x y ms → TwoKeys x y ns) → TwoKeys a b ms → TwoKeys a b ns
two_on a b ms ns f (inl x) = f a b x
two_on a b ms ns f (inr x) = two_swap (f b a x)

shuffled_keys : {ms ns : Members} → Shuffled ms ns → (a b : Name) → HasKeys a b ms → TwoKeys a b ns
shuffled_keys as_it_is a b x = inl x
shuffled_keys (keep_first σ) a b (first_key x) = inl (first_key (shuffled_key σ x))
shuffled_keys (keep_first σ) a b (later_on x) = two_later (shuffled_keys σ a b x)
shuffled_keys swap_first a b (first_key first) = inr (first_key first)
shuffled_keys swap_first a b (first_key (later x)) = inl (later_on (first_key x))
shuffled_keys swap_first a b (later_on (first_key x)) = inl (first_key (later x))
shuffled_keys swap_first a b (later_on (later_on x)) = inl (later_on (later_on x))
shuffled_keys (and_on {ns = ns} {ls = ls} σ τ) a b x = two_on a b ns ls (shuffled_keys τ) (shuffled_keys σ a b x)

module _ {ms ns : Members} (σ : Shuffled ms ns) where
  -- the smallest key of which a test is true
  pub key_order_same : (f : Name → Bool) → least_key f ms ≡ least_key f ns
  key_order_same f =
      least_one (λ k. HasKey k ns × (f k ≡ true)) (least_key f ms) (least_key f ns)
      (least_map (λ k. HasKey k ms × (f k ≡ true)) (λ k. HasKey k ns × (f k ≡ true)) (λ k (x, t). (shuffled_key σ x, t))
      (λ k (x, t). (shuffled_key (shuffled_sym σ) x, t)) (least_key f ms) (key_least f (λ k. f k ≡ true) (λ k. (λ e. e, λ e. e)) ms))
      (key_least f (λ k. f k ≡ true) (λ k. (λ e. e, λ e. e)) ns)

  -- the smallest that clashes with another
  pub clash_order : least_clash ms ≡ least_clash ns
  clash_order =
      least_one (InPair ns) (least_clash ms) (least_clash ns)
      (least_map (InPair ms) (InPair ns) (λ k (other, two, c). (other, two_on k other ms ns (shuffled_keys σ) two, c))
      (λ k (other, two, c). (other, two_on k other ns ms (shuffled_keys (shuffled_sym σ)) two, c)) (least_clash ms) (clash_least ms))
      (clash_least ns)

pub fault_order : (d : Doc) {ms ns : Members} → Shuffled ms ns → fault_in d ms ≡ fault_in d ns
unfolding fault_in
fault_order d σ = rw (key_order_same σ bad_tilde, key_order_same σ own_key, clash_order σ, key_order_same σ (walks_to is_in_array d), key_order_same σ (walks_to is_no_object d))
