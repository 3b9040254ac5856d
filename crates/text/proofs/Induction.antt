-- What holds of every accepted value: a rule of induction along the definition of reading (specs/Reader.antt), so that a property of accepted
-- texts is proved by what it says of a token, a container, an item and a comma, and no proof goes through the definition again.
--     value-induction      from the rules of a property to the values that are accepted
--     read-accepted        an accepted text has one value, with nothing but white space around it
-- Assumes nothing.
use Rattle.std.specs.Prelude.{Result, Ok, Err}
use Rattle.text.specs.declared.Fault.{Fault}
use Rattle.text.specs.declared.Fault.TheVariants.{Malformed, Forbidden}
use Prim.Native.Nat.{ℕ, zero, suc, ◌+◌, ◌-◌, ◌≤◌, ◌<◌}
use mathlib.Core.Path.{◌≡◌, refl, ◌∙◌}
use mathlib.Core.List.{List}
use mathlib.Core.Bool.{Bool, true, false, cond}
use native.Mathlib.Omega.{arith}
use lib.ListN.{length}
use lib.Dec.{ltb, leb, eqb}
use borrow.Author.Tests.{ltb-false, eqb-true, eqb-false}
use Rattle.text.specs.Limits.{Limits}
use Rattle.text.specs.Text.{byte_at}
use Rattle.text.specs.Strings.{string_end, name_of}
use Rattle.text.specs.Tokens.{skip, is_digit, kind_by, token_at}
use Rattle.text.specs.Tree.{Bracket, square, curly, bracket_kind, Forest, none, leaf, node, size, join}
use Rattle.text.specs.Grammar.{closing}
use Rattle.text.specs.Firsts.{ScalarKind}
use Rattle.text.specs.Reader.{Read, good, bad, Reader, ItemReader, scalar_with, scalar_at, close_of, container, deep, value_with, after_item, items_from, inside_of, named, colon_at, member_with, member_of, value_at}
use Rattle.text.specs.Whole.{end_of, read_of}
use Rattle.text.specs.declared.Refusal.{Refusal}
use Rattle.text.specs.declared.Refusal.TheVariants.{TooLong, Grammar}

-- what is accepted has a property
pub data WhenGood (P : Forest → ℕ → Type 0) : Read → Type 0 where
  accepted : {f : Forest} {to : ℕ} → P f to → WhenGood P (good f to)
  refused : {r : Refusal} → WhenGood P (bad r)

accepts_cond : {P : Forest → ℕ → Type 0} (x : Bool) {a b : Read} → (x ≡ true → WhenGood P a) → (x ≡ false → WhenGood P b) → WhenGood P (cond x a b)
accepts_cond true p q = p refl
accepts_cond false p q = q refl

cond_lt : (x : Bool) (a b n : ℕ) → a < n → b < n → cond x a b < n
cond_lt true a b n p q = p
cond_lt false a b n p q = q

-- a first byte begins a value of a kind of 1 to 7, or none
pub kind_most : (b : ℕ) → kind_by b < 8
unfolding kind_by
kind_most b =
    cond_lt (eqb b 110) 1 _ 8 (omega arith)
    (cond_lt (eqb b 102) 2 _ 8 (omega arith)
    (cond_lt (eqb b 116) 3 _ 8 (omega arith)
    (cond_lt (eqb b 45) 4 _ 8 (omega arith)
    (cond_lt (eqb b 34) 5 _ 8 (omega arith)
    (cond_lt (eqb b 91) 6 _ 8 (omega arith)
    (cond_lt (eqb b 123) 7 _ 8 (omega arith) (cond_lt (is_digit b) 4 0 8 (omega arith) (omega arith))))))))

-- The rules of a property of values (V: where so many containers may be opened, with the places of its name and its own, a tree and the place after it)
-- and of items inside a container (I: of which bracket, where so many containers may be opened, the bracket's place, up to a place, the items).
pub record Rules (L : Limits) (t : List ℕ) (Value : (depth ns ne at : ℕ) → Forest → ℕ → Type 0) (Items : Bracket → (depth edge at : ℕ) → Forest → Type 0) : Type 0 where
  -- a value that holds no others
  pub token : (depth ns ne at kind to : ℕ) → ScalarKind kind → kind_by (byte_at t at) ≡ kind → token_at t kind at ≡ Ok to
      → Value depth ns ne at (leaf kind ns ne at to none) to
  -- a container around its items
  pub box : (b : Bracket) (depth ns ne edge at : ℕ) (f : Forest) → kind_by (byte_at t edge) ≡ bracket_kind b → Items b depth edge at f → byte_at t at ≡ closing b
      → Value (suc depth) ns ne edge (node b ns ne edge (at + 1) f none) (at + 1)
  -- no items yet
  pub start : (b : Bracket) (depth edge : ℕ) → kind_by (byte_at t edge) ≡ bracket_kind b → Items b depth edge (skip t (edge + 1)) none
  pub comma : (b : Bracket) (depth edge at : ℕ) (f : Forest) → Items b depth edge at f → byte_at t at ≡ 44 → Items b depth edge (skip t (at + 1)) f
  -- one element more
  pub element : (depth edge at to : ℕ) (done f : Forest) → Items square depth edge at done → Value depth 0 0 at f to
      → Items square depth edge (skip t to) (join done f)
  -- one member more: its name's quotes are at `at` and before `end`
  pub member : (depth edge at end to : ℕ) (done f : Forest) → Items curly depth edge at done
      → byte_at t at ≡ 34 → string_end t (at + 1) ≡ Ok end → (L.unique ≡ true → named t (name_of t (at + 1) (end - 1)) done ≡ false)
      → byte_at t (skip t end) ≡ 58 → Value depth (at + 1) (end - 1) (skip t (skip t end + 1)) f to
      → Items curly depth edge (skip t to) (join done f)

module _ (L : Limits) (t : List ℕ) (Value : (depth ns ne at : ℕ) → Forest → ℕ → Type 0) (Items : Bracket → (depth edge at : ℕ) → Forest → Type 0)
    (R : Rules L t Value Items) where
  -- the items up to the closing byte
  abbrev Closed : Bracket → (depth edge : ℕ) → Forest → ℕ → Type 0
  Closed b depth edge f to = (x : ℕ) × Items b depth edge x f × (byte_at t x ≡ closing b) × (to ≡ x + 1)

  -- ---- items ----

  module _ (b : Bracket) (depth edge : ℕ) (item : ItemReader)
      (step : (done : Forest) (at n : ℕ) → Items b depth edge at done → WhenGood (λ f to. Items b depth edge (skip t to) (join done f)) (item done at n)) where
    after : (done : Forest) (more : Forest → ℕ → Read)
        → ((f : Forest) (to : ℕ) → Items b depth edge to (join done f) → WhenGood (Closed b depth edge) (more f to))
        → {r : Read} → WhenGood (λ f to. Items b depth edge (skip t to) (join done f)) r → WhenGood (Closed b depth edge) (after_item t (closing b) done more r)
    unfolding after_item
    after done more next refused = refused
    after done more next (accepted {f} {to} p) =
        let x = skip t to in
        accepts_cond (eqb (byte_at t x) (closing b))
        (λ e. accepted (x, p, eqb-true (byte_at t x) (closing b) e, refl))
        (λ e. accepts_cond (eqb (byte_at t x) 44)
        (λ c. next f (skip t (x + 1)) (R.comma b depth edge x (join done f) p (eqb-true (byte_at t x) 44 c)))
        (λ c. refused))

    from : (turns at n : ℕ) (done : Forest) → Items b depth edge at done → WhenGood (Closed b depth edge) (items_from t item (closing b) turns at n done)
    unfolding items_from
    from zero at n done p = refused
    from (suc turns) at n done p =
        after done (λ f to. items_from t item (closing b) turns to (n + size f) (join done f))
        (λ f to q. from turns to (n + size f) (join done f) q)
        (step done at n p)

    within : (n : ℕ) → kind_by (byte_at t edge) ≡ bracket_kind b → WhenGood (Closed b depth edge) (inside_of t item (closing b) (edge + 1) n)
    unfolding inside_of
    within n k =
        let x = skip t (edge + 1) in
        let p = R.start b depth edge k in
        accepts_cond (eqb (byte_at t x) (closing b))
        (λ e. accepted (x, p, eqb-true (byte_at t x) (closing b) e, refl))
        (λ e. from (suc (length t)) x n none p)

    closed : (ns ne : ℕ) → kind_by (byte_at t edge) ≡ bracket_kind b → {r : Read} → WhenGood (Closed b depth edge) r
        → WhenGood (Value (suc depth) ns ne edge) (close_of b ns ne edge r)
    unfolding close_of
    closed ns ne k refused = refused
    closed ns ne k (accepted {f} {to} (x, p, e, q)) = rw q (accepted (R.box b depth ns ne edge x f k p e))

    boxed : (ns ne n : ℕ) → kind_by (byte_at t edge) ≡ bracket_kind b → WhenGood (Value (suc depth) ns ne edge) (container L b (inside_of t item (closing b)) ns ne edge n)
    unfolding container
    boxed ns ne n k = accepts_cond (leb L.values n) (λ e. refused) (λ e. closed ns ne k (within (n + 1) k))

  -- ---- members ----

  module _ (depth edge : ℕ) (value : Reader) (values : (ns ne at n : ℕ) → WhenGood (Value depth ns ne at) (value ns ne at n)) where
    then_value : (done : Forest) (at end : ℕ) → Items curly depth edge at done → byte_at t at ≡ 34 → string_end t (at + 1) ≡ Ok end
        → (L.unique ≡ true → named t (name_of t (at + 1) (end - 1)) done ≡ false) → byte_at t (skip t end) ≡ 58
        → {r : Read} → WhenGood (Value depth (at + 1) (end - 1) (skip t (skip t end + 1))) r
        → WhenGood (λ f to. Items curly depth edge (skip t to) (join done f)) r
    then_value done at end p q e u c refused = refused
    then_value done at end p q e u c (accepted {f} {to} y) = accepted (R.member depth edge at end to done f p q e u c y)

    colon : (done : Forest) (at end n : ℕ) → Items curly depth edge at done → byte_at t at ≡ 34 → string_end t (at + 1) ≡ Ok end
        → (L.unique ≡ true → named t (name_of t (at + 1) (end - 1)) done ≡ false)
        → WhenGood (λ f to. Items curly depth edge (skip t to) (join done f)) (colon_at t value at end n)
    unfolding colon_at
    colon done at end n p q e u =
        let x = skip t end in
        accepts_cond (eqb (byte_at t x) 58)
        (λ c. then_value done at end p q e u (eqb-true (byte_at t x) 58 c) (values (at + 1) (end - 1) (skip t (x + 1)) n))
        (λ c. refused)

    name : (done : Forest) (at n : ℕ) → Items curly depth edge at done → byte_at t at ≡ 34 → (k : Result ℕ (Fault ℕ)) → string_end t (at + 1) ≡ k
        → WhenGood (λ f to. Items curly depth edge (skip t to) (join done f)) (member_with L t value done at n k)
    unfolding member_with
    name done at n p q (Err (Malformed x)) e = refused
    name done at n p q (Err (Forbidden x)) e = refused
    name done at n p q (Ok end) e =
        accepts_cond L.unique
        (λ u. accepts_cond (named t (name_of t (at + 1) (end - 1)) done) (λ d. refused) (λ d. colon done at end n p q e (λ v. d)))
        (λ u. colon done at end n p q e (λ v. let z : ◌≡◌ {A = ℕ} 0 1 = cc in absurd (omega arith)))

    member_step : (done : Forest) (at n : ℕ) → Items curly depth edge at done
        → WhenGood (λ f to. Items curly depth edge (skip t to) (join done f)) (member_of L t value done at n)
    unfolding member_of
    member_step done at n p =
        accepts_cond (eqb (byte_at t at) 34) (λ q. name done at n p (eqb-true (byte_at t at) 34 q) (string_end t (at + 1)) refl) (λ q. refused)

  -- ---- values ----

  scalar : (depth kind ns ne at n : ℕ) → ScalarKind kind → kind_by (byte_at t at) ≡ kind → WhenGood (Value depth ns ne at) (scalar_at L t kind ns ne at n)
  unfolding scalar_at scalar_with
  scalar depth kind ns ne at n s k = accepts_cond (leb L.values n) (λ e. refused) (λ e. go (token_at t kind at) refl)
    where
      go : (w : Result ℕ (Fault ℕ)) → token_at t kind at ≡ w → WhenGood (Value depth ns ne at) (scalar_with kind ns ne at w)
      go (Ok to) e = accepted (R.token depth ns ne at kind to s k e)
      go (Err (Malformed p)) e = refused
      go (Err (Forbidden p)) e = refused

  value : (depth : ℕ) (array object : Reader) (ns ne at n : ℕ)
      → (kind_by (byte_at t at) ≡ 6 → WhenGood (Value depth ns ne at) (array ns ne at n))
      → (kind_by (byte_at t at) ≡ 7 → WhenGood (Value depth ns ne at) (object ns ne at n))
      → WhenGood (Value depth ns ne at) (value_with L t array object ns ne at n)
  unfolding value_with
  value depth array object ns ne at n a o =
      let kind = kind_by (byte_at t at) in
      accepts_cond (eqb kind 0)
      (λ e. refused)
      (λ e. accepts_cond (eqb kind 6)
      (λ g. a (eqb-true kind 6 g))
      (λ g. accepts_cond (eqb kind 7)
      (λ h. o (eqb-true kind 7 h))
      (λ h. scalar depth kind ns ne at n (omega (arith, kind_most (byte_at t at), eqb-false kind 0 e, eqb-false kind 6 g, eqb-false kind 7 h)) refl)))

  element_step : (depth edge at : ℕ) (done : Forest) → Items square depth edge at done → {r : Read} → WhenGood (Value depth 0 0 at) r
      → WhenGood (λ f to. Items square depth edge (skip t to) (join done f)) r
  element_step depth edge at done p refused = refused
  element_step depth edge at done p (accepted {f} {to} y) = accepted (R.element depth edge at to done f p y)

  along : (depth ns ne at n : ℕ) → WhenGood (Value depth ns ne at) (value_at L t depth ns ne at n)
  unfolding value_at deep
  along zero ns ne at n = value zero deep deep ns ne at n (λ k. refused) (λ k. refused)
  along (suc depth) ns ne at n =
      value (suc depth) _ _ ns ne at n
      (boxed square depth at _ (λ done x m p. element_step depth at x done p (along depth 0 0 x m)) ns ne n)
      (boxed curly depth at _ (member_step depth at (value_at L t depth) (along depth)) ns ne n)

  -- every accepted value has the property
  pub value_induction : (depth ns ne at n : ℕ) (f : Forest) (to : ℕ) → value_at L t depth ns ne at n ≡ good f to → Value depth ns ne at f to
  value_induction depth ns ne at n f to e = go (rw e at (along depth ns ne at n))
    where
      go : WhenGood (Value depth ns ne at) (good f to) → Value depth ns ne at f to
      go (accepted p) = p

-- ---- whole texts ----

-- a text that is accepted: its value, then white space, then its end
pub record AcceptedValue (L : Limits) (t : List ℕ) (f : Forest) (to : ℕ) : Type 0 where
  pub end : ℕ
  pub value : value_at L t L.depth 0 0 (skip t 0) 0 ≡ good f end
  pub space : skip t end ≡ to
  pub ended : length t ≤ to
  pub short : length t ≤ L.bytes

pub read_accepted : (L : Limits) (t : List ℕ) (f : Forest) (to : ℕ) → read_of L t ≡ good f to → AcceptedValue L t f to
unfolding read_of end_of
read_accepted L t f to e = whole (ltb L.bytes (length t)) refl (value_at L t L.depth 0 0 (skip t 0) 0) refl e
  where
    tail : (g : Forest) (end : ℕ) → value_at L t L.depth 0 0 (skip t 0) 0 ≡ good g end → length t ≤ L.bytes → (c : Bool) → ltb (skip t end) (length t) ≡ c
        → cond c (bad (Grammar (skip t end))) (good g (skip t end)) ≡ good f to → AcceptedValue L t f to
    tail g end v s false h q =
        let same : g ≡ f = cc in
        let place : skip t end ≡ to = cc in
        record { end = end; value = v ∙ rw same; space = place; ended = rw (← place) (ltb-false (skip t end) (length t) h); short = s }
    tail g end v s true h q = let z : ◌≡◌ {A = ℕ} 0 1 = cc in absurd (omega arith)

    whole : (c : Bool) → ltb L.bytes (length t) ≡ c → (r : Read) → value_at L t L.depth 0 0 (skip t 0) 0 ≡ r
        → cond c (bad TooLong) (end_of t r) ≡ good f to → AcceptedValue L t f to
    whole true h r v q = let z : ◌≡◌ {A = ℕ} 0 1 = cc in absurd (omega arith)
    whole false h (bad r) v q = let z : ◌≡◌ {A = ℕ} 0 1 = cc in absurd (omega arith)
    whole false h (good g end) v q = tail g end v (ltb-false L.bytes (length t) h) (ltb (skip t end) (length t)) refl q
