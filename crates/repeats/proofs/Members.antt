-- The members of one object, checked at its end: reading them with a comparison at each name gives what reading them without, and then looking for
-- the earliest repeated name among those that were closed, gives. The reader of their values is any fair one.
--     colon-told         what a value behind a name and a colon is
--     members-law        from after the brace on
-- Assumes nothing.
use Rattle.std.specs.Prelude.{Result, Ok, Err}
use Rattle.text.specs.declared.Fault.{Fault}
use Rattle.text.specs.declared.Fault.TheVariants.{Malformed, Forbidden}
use mathlib.Core.Path.{◌≡◌, refl, sym, ap, ◌∙◌}
use mathlib.Core.List.{List, [], ◌∷◌, ◌++◌}
use mathlib.Core.Bool.{Bool, true, false, cond}
use Prim.Native.Nat.{ℕ, zero, suc, ◌+◌, ◌-◌, ◌≤◌, ◌<◌}
use native.Mathlib.Omega.{arith}
use lib.ListN.{length}
use lib.Dec.{eqb}
use borrow.Author.Tests.{eqb-true}
use Rattle.laws.proofs.Places.{inside}
use Rattle.laws.specs.Order.{same}
use Rattle.text.specs.Limits.{Limits, loose}
use Rattle.text.specs.Text.{byte_at}
use Rattle.text.specs.Strings.{string_end, name_of}
use Rattle.text.specs.Tokens.{skip}
use Rattle.text.specs.Grammar.{closing}
use Rattle.text.specs.Tree.{curly, Forest, none, leaf, node, size, join}
use Rattle.text.specs.Reader.{Read, good, bad, Reader, after_item, items_from, inside_of, named, colon_at, member_with, member_of}
use Rattle.text.specs.declared.Refusal.TheVariants.{Grammar, Repeated}
use Rattle.text.proofs.Laws.{end_inside}
use Rattle.text.proofs.Grammar.Sound.{place_of}
use Rattle.text.proofs.Grammar.Words.{skip_later, skip_inside}
use Rattle.laws.specs.Earliest.{known, repeat_from, first_repeat}
use Rattle.repeats.specs.Quoted.{tail_at}
use Rattle.repeats.specs.Closed.{loose_item, closed_by, own_name, closed_after, closed_from, closed_in, names_in, settle}
use Rattle.repeats.proofs.Quoted.{quoted_name}

-- ---- readers of a value

module _ (t : List ℕ) where
  -- what is asked of a reader of values: it goes forward, and what it accepts is one value with the name that it was given
  pub record Fair (value : Reader) : Type 0 where
    pub later : (ns ne at n : ℕ) → at ≤ length t → at ≤ place_of (value ns ne at n)
    pub within : (ns ne at n : ℕ) → at ≤ length t → place_of (value ns ne at n) ≤ length t
    pub called : (ns ne at n : ℕ) (f : Forest) (to : ℕ) → value ns ne at n ≡ good f to → (name : List ℕ) → named t name f ≡ same (name_of t ns ne) name

-- ---- names of values one beside the other

pub named_join : (t name : List ℕ) (f g : Forest) → named t name (join f g) ≡ cond (named t name f) true (named t name g)
unfolding named join
named_join t name none g = refl
named_join t name (leaf kind ns ne from to rest) g = go (same (name_of t ns ne) name) (named_join t name rest g)
  where
    go : (b : Bool) → named t name (join rest g) ≡ cond (named t name rest) true (named t name g)
        → cond b true (named t name (join rest g)) ≡ cond (cond b true (named t name rest)) true (named t name g)
    go true h = refl
    go false h = h
named_join t name (node b ns ne from to inner rest) g = go (same (name_of t ns ne) name) (named_join t name rest g)
  where
    go : (b : Bool) → named t name (join rest g) ≡ cond (named t name rest) true (named t name g)
        → cond b true (named t name (join rest g)) ≡ cond (cond b true (named t name rest)) true (named t name g)
    go true h = refl
    go false h = h

pub known_more : (label : ℕ → List ℕ) (name : List ℕ) (ps : List ℕ) (p : ℕ)
    → known label name (ps ++ p ∷ []) ≡ cond (known label name ps) true (same (label p) name)
unfolding known
known_more label name [] p = go (same (label p) name)
  where
    go : (b : Bool) → cond b true false ≡ b
    go true = refl
    go false = refl
known_more label name (q ∷ ps) p = go (same (label q) name) (known_more label name ps p)
  where
    go : (b : Bool) → known label name (ps ++ p ∷ []) ≡ cond (known label name ps) true (same (label p) name)
        → cond b true (known label name (ps ++ p ∷ [])) ≡ cond (cond b true (known label name ps)) true (same (label p) name)
    go true h = refl
    go false h = h

pub passed : {A : Type 0} (x : Bool) (a b : A) → x ≡ true → cond x a b ≡ a
passed x a b e = rw e

-- ---- the members

module _ (L : Limits) (unique : L.unique ≡ true) (t : List ℕ) (value : Reader) (fair : Fair t value) where
  abbrev pub label : ℕ → List ℕ
  label = tail_at t 1

  -- a value behind a name and a colon
  pub record Valued (at : ℕ) (f : Forest) (to : ℕ) : Type 0 where
    pub later : at < to
    pub within : to ≤ length t
    pub called : (name : List ℕ) → named t name f ≡ same (label at) name

  abbrev pub Colon : ℕ → Read → Type 0
  Colon at (good f to) = Valued at f to
  Colon at (bad r) = Prim.Unit {0}

  label_is : (at end : ℕ) → string_end t (at + 1) ≡ Ok end → label at ≡ name_of t (at + 1) (end - 1)
  label_is at end e = quoted_name t (at + 1) end e

  pub colon_told : (at end n : ℕ) → string_end t (at + 1) ≡ Ok end → Colon at (colon_at t value at end n)
  unfolding colon_at
  colon_told at end n e = go (eqb (byte_at t x) 58) refl
    where
      x : ℕ
      x = skip t end

      from : ℕ
      from = skip t (x + 1)

      is : (R : Read) → value (at + 1) (end - 1) from n ≡ R → at < from → from ≤ length t → Colon at R
      is (good f to) q h k =
          record {
            later = let l = rw q at (fair.later (at + 1) (end - 1) from n k) in omega arith;
            within = rw q at (fair.within (at + 1) (end - 1) from n k);
            called = λ name. fair.called (at + 1) (end - 1) from n f to q name ∙ ap (λ (l : List ℕ). same l name) (sym (label_is at end e));
          }
      is (bad r) q h k = tt

      go : (c : Bool) → eqb (byte_at t x) 58 ≡ c → Colon at (cond c (value (at + 1) (end - 1) from n) (bad (Grammar x)))
      go false b = tt
      go true b =
          let i = end_inside t (at + 1) end e in
          let l = inside t x (omega (arith, eqb-true (byte_at t x) 58 b)) in
          is (value (at + 1) (end - 1) from n) refl (omega (arith, skip_later t end, skip_later t (x + 1))) (skip_inside t (x + 1) (omega arith))

  -- ---- one member and what follows it

  -- the names closed behind a member
  abbrev behind : (Forest → ℕ → List ℕ) → Read → List ℕ
  behind = closed_after t (own_name t curly) (loose_item L t value curly) (closing curly)

  module _ (done : Forest) (seen : List ℕ) (at n : ℕ) (strict easy : Forest → ℕ → Read) (names : Forest → ℕ → List ℕ)
      (knows : (name : List ℕ) → named t name done ≡ known label name seen)
      (next : (f : Forest) (x : ℕ) → ((name : List ℕ) → named t name (join done f) ≡ known label name (seen ++ at ∷ []))
      → strict f x ≡ settle (repeat_from label (seen ++ at ∷ []) (names f x)) (easy f x)) where
    -- the name is new: the value, and what follows
    fresh : (R : Read) → Colon at R
        → after_item t (closing curly) done strict R
        ≡ settle (repeat_from label (seen ++ at ∷ []) (behind names R)) (after_item t (closing curly) done easy R)
    unfolding after_item repeat_from
    fresh (bad r) c = refl
    fresh (good f to) c = go (eqb (byte_at t x) (closing curly)) (eqb (byte_at t x) 44)
      where
        x : ℕ
        x = skip t to

        joined : (name : List ℕ) → named t name (join done f) ≡ known label name (seen ++ at ∷ [])
        joined name = named_join t name done f ∙ rw (knows name, c.called name) (sym (known_more label name seen at))

        go : (a b : Bool)
            → cond a (good (join done f) (x + 1)) (cond b (strict f (skip t (x + 1))) (bad (Grammar x)))
            ≡ settle (repeat_from label (seen ++ at ∷ []) (cond a [] (cond b (names f (skip t (x + 1))) [])))
            (cond a (good (join done f) (x + 1)) (cond b (easy f (skip t (x + 1))) (bad (Grammar x))))
        go true b = refl
        go false false = refl
        go false true = next f (skip t (x + 1)) joined

    -- the name is closed
    ended : (end : ℕ) → string_end t (at + 1) ≡ Ok end → (d : Bool) → known label (label at) seen ≡ d
        → after_item t (closing curly) done strict (cond (named t (name_of t (at + 1) (end - 1)) done) (bad (Repeated at)) (colon_at t value at end n))
        ≡ settle (repeat_from label seen (at ∷ behind names (colon_at t value at end n))) (after_item t (closing curly) done easy (colon_at t value at end n))
    unfolding after_item repeat_from
    ended end e true q =
        let k : named t (name_of t (at + 1) (end - 1)) done ≡ true = knows (name_of t (at + 1) (end - 1)) ∙ ap (λ (l : List ℕ). known label l seen) (sym (label_is at end e)) ∙ q in
        rw (k, q)
    ended end e false q =
        let k : named t (name_of t (at + 1) (end - 1)) done ≡ false = knows (name_of t (at + 1) (end - 1)) ∙ ap (λ (l : List ℕ). known label l seen) (sym (label_is at end e)) ∙ q in
        rw (k, q) (fresh (colon_at t value at end n) (colon_told at end n e))

    step : (b : Bool) (k : Result ℕ (Fault ℕ)) → string_end t (at + 1) ≡ k
        → after_item t (closing curly) done strict (cond b (member_with L t value done at n k) (bad (Grammar at)))
        ≡ settle (repeat_from label seen (cond b (closed_by at k) [] ++ behind names (cond b (member_with (loose L) t value done at n k) (bad (Grammar at)))))
        (after_item t (closing curly) done easy (cond b (member_with (loose L) t value done at n k) (bad (Grammar at))))
    unfolding after_item member_with repeat_from
    step false k e = refl
    step true (Err (Malformed p)) e = refl
    step true (Err (Forbidden p)) e = refl
    step true (Ok end) e =
        ap (after_item t (closing curly) done strict) (passed L.unique _ (colon_at t value at end n) unique)
        ∙ ended end e (known label (label at) seen) refl

  -- ---- all of them

  abbrev closed : (turns at n : ℕ) → Forest → List ℕ
  closed = closed_from t (own_name t curly) (loose_item L t value curly) (closing curly)

  items_law : (turns at n : ℕ) (done : Forest) (seen : List ℕ) → ((name : List ℕ) → named t name done ≡ known label name seen)
      → items_from t (member_of L t value) (closing curly) turns at n done
      ≡ settle (repeat_from label seen (closed turns at n done)) (items_from t (member_of (loose L) t value) (closing curly) turns at n done)
  unfolding items_from member_of closed_from repeat_from
  items_law zero at n done seen knows = refl
  items_law (suc turns) at n done seen knows =
      step done seen at n
      (λ f to. items_from t (member_of L t value) (closing curly) turns to (n + size f) (join done f))
      (λ f to. items_from t (member_of (loose L) t value) (closing curly) turns to (n + size f) (join done f))
      (λ f x. closed turns x (n + size f) (join done f))
      knows
      (λ f x known. items_law turns x (n + size f) (join done f) (seen ++ at ∷ []) known)
      (eqb (byte_at t at) 34) (string_end t (at + 1)) refl

  pub members_law : (at n : ℕ)
      → inside_of t (member_of L t value) (closing curly) at n
      ≡ settle (first_repeat (tail_at t 1) (names_in L t value curly at n)) (inside_of t (member_of (loose L) t value) (closing curly) at n)
  unfolding inside_of closed_in repeat_from named known
  members_law at n = go (eqb (byte_at t (skip t at)) (closing curly))
    where
      x : ℕ
      x = skip t at

      go : (b : Bool) → cond b (good none (x + 1)) (items_from t (member_of L t value) (closing curly) (suc (length t)) x n none)
          ≡ settle (repeat_from (tail_at t 1) [] (cond b [] (closed (suc (length t)) x n none)))
          (cond b (good none (x + 1)) (items_from t (member_of (loose L) t value) (closing curly) (suc (length t)) x n none))
      go true = refl
      go false = items_law (suc (length t)) x n none [] (λ name. refl)
