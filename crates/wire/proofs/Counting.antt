-- Whole reading without its tree: where a value ends and how many values have begun by then (`tally`). Names are not compared, so what stands
-- before an item doesn't matter, and each part of reading is an equation over places and counts:
--     value-law      a value by its first byte
--     item-law       an item, whatever items are before it
--     items-law      the items from a place on: one, and then what follows it; the turns are gone
-- Assumes nothing.
use Rattle.std.specs.Prelude.{Result, Ok, Err}
use Rattle.text.specs.declared.Fault.{Fault}
use Rattle.text.specs.declared.Fault.TheVariants.{Malformed, Forbidden}
use mathlib.Core.Path.{◌≡◌, refl, ap, ◌∙◌}
use mathlib.Core.List.{List}
use mathlib.Core.Bool.{Bool, true, false, cond}
use Prim.Native.Nat.{ℕ, zero, suc, ◌+◌, ◌-◌, ◌≤◌, ◌<◌}
use native.Mathlib.Nat.{add-zero}
use native.Mathlib.Omega.{arith}
use lib.ListN.{length}
use lib.Dec.{leb, eqb}
use borrow.Author.Tests.{eqb-true}
use Rattle.laws.proofs.Places.{inside}
use Rattle.text.specs.Limits.{Limits}
use Rattle.text.specs.Text.{byte_at}
use Rattle.text.specs.Strings.{string_end}
use Rattle.text.specs.Tokens.{skip, kind_by, token_at}
use Rattle.text.specs.Grammar.{closing, item}
use Rattle.text.specs.Tree.{Bracket, square, curly, Forest, none, size, join}
use Rattle.text.specs.Reader.{Read, good, bad, Reader, scalar_with, scalar_at, close_of, container, deep, value_with, after_item, items_from, inside_of, colon_at, member_with, member_of, value_at}
use Rattle.text.specs.declared.Refusal.{Refusal}
use Rattle.text.specs.declared.Refusal.TheVariants.{Grammar, Character, Deep, Many}
use Rattle.text.proofs.Grammar.Stands.{stands_to}
use Rattle.text.proofs.Grammar.Words.{skip_later, skip_inside}
use Rattle.text.proofs.Grammar.Trees.{size_join}
use Rattle.text.proofs.Grammar.Sound.{place_of, told_place, Parsed, Viable}
use Rattle.text.proofs.Grammar.Told.{item_at, item_told}
use Rattle.text.proofs.Grammar.Within.{item_within}

-- the place after what was read, and how many values have begun by then; or the refusal
pub data Went : Type 0 where
  on : (to n : ℕ) → Went
  halt : Refusal → Went

-- a reading that began after n values
abbrev pub tally : ℕ → Read → Went
tally n (good f to) = on to (n + size f)
tally n (bad r) = halt r

-- one part and then another
abbrev pub bind : (ℕ → ℕ → Went) → Went → Went
bind k (on to n) = k to n
bind k (halt r) = halt r

-- a token, after which n values have begun
abbrev pub token_c : (n : ℕ) → Result ℕ (Fault ℕ) → Went
token_c n (Ok to) = on to n
token_c n (Err (Malformed p)) = halt (Grammar p)
token_c n (Err (Forbidden p)) = halt (Character p)

tally_cond : (n : ℕ) (x : Bool) (a b : Read) {c d : Went} → tally n a ≡ c → tally n b ≡ d → tally n (cond x a b) ≡ cond x c d
tally_cond n true a b p q = p
tally_cond n false a b p q = q

pub cond_both : {A : Type 0} (x : Bool) {a b c d : A} → a ≡ c → b ≡ d → cond x a b ≡ cond x c d
cond_both true p q = p
cond_both false p q = q

failed : {A : Type 0} (x : Bool) (a b : A) → x ≡ false → cond x a b ≡ b
failed x a b e = rw e

module _ (L : Limits) (t : List ℕ) where
  -- ---- the parts of reading, counted

  -- a value where so many containers may be opened
  unfoldable pub value_c : (depth at n : ℕ) → Went
  value_c depth at n = tally n (value_at L t depth 0 0 at n)

  -- from behind a name on
  unfoldable pub colon_c : (depth end n : ℕ) → Went
  colon_c depth end n = cond (eqb (byte_at t (skip t end)) 58) (value_c depth (skip t (skip t end + 1)) n) (halt (Grammar (skip t end)))

  -- a name, and what follows it
  abbrev pub name_c : (depth n : ℕ) → Result ℕ (Fault ℕ) → Went
  name_c depth n (Ok end) = colon_c depth end n
  name_c depth n (Err (Malformed p)) = halt (Grammar p)
  name_c depth n (Err (Forbidden p)) = halt (Character p)

  -- an item
  unfoldable pub item_c : (depth : ℕ) → Bracket → (at n : ℕ) → Went
  item_c depth square at n = value_c depth at n
  item_c depth curly at n = cond (eqb (byte_at t at) 34) (name_c depth n (string_end t (at + 1))) (halt (Grammar at))

  -- after an item
  abbrev pub rest_by : (ℕ → ℕ → Went) → Bracket → (to n : ℕ) → Went
  rest_by more b to n =
      cond (eqb (byte_at t (skip t to)) (closing b)) (on (skip t to + 1) n)
      (cond (eqb (byte_at t (skip t to)) 44) (more (skip t (skip t to + 1)) n) (halt (Grammar (skip t to))))

  -- items, with so many turns
  unfoldable pub loop_c : (depth : ℕ) → Bracket → (turns at n : ℕ) → Went
  loop_c depth b zero at n = halt (Grammar at)
  loop_c depth b (suc turns) at n = bind (rest_by (λ x m. loop_c depth b turns x m) b) (item_c depth b at n)

  -- items
  unfoldable pub items_c : (depth : ℕ) → Bracket → (at n : ℕ) → Went
  items_c depth b at n = loop_c depth b (suc (length t)) at n

  -- after an item
  unfoldable pub rest_c : (depth : ℕ) → Bracket → (to n : ℕ) → Went
  rest_c depth b to n = rest_by (items_c depth b) b to n

  -- inside a container, from after its bracket on
  unfoldable pub inside_c : (depth : ℕ) → Bracket → (at n : ℕ) → Went
  inside_c depth b at n = cond (eqb (byte_at t (skip t at)) (closing b)) (on (skip t at + 1) n) (items_c depth b (skip t at) n)

  -- a container where so many may be opened
  unfoldable pub box_c : (depth : ℕ) → Bracket → (at n : ℕ) → Went
  box_c zero b at n = halt (Deep at)
  box_c (suc depth) b at n = cond (leb L.values n) (halt (Many at)) (inside_c depth b (at + 1) (n + 1))

  unfoldable pub scalar_c : (kind at n : ℕ) → Went
  scalar_c kind at n = cond (leb L.values n) (halt (Many at)) (token_c (n + 1) (token_at t kind at))

  -- ---- the name of a value doesn't matter

  Anonymous : Reader → Type 0
  Anonymous read = (ns ne at n : ℕ) → tally n (read ns ne at n) ≡ tally n (read 0 0 at n)

  scalar_anonymous : (kind : ℕ) → Anonymous (scalar_at L t kind)
  unfolding Anonymous scalar_at scalar_with size
  scalar_anonymous kind ns ne at n = go (leb L.values n) (token_at t kind at)
    where
      go : (c : Bool) (k : Result ℕ (Fault ℕ)) → tally n (cond c (bad (Many at)) (scalar_with kind ns ne at k)) ≡ tally n (cond c (bad (Many at)) (scalar_with kind 0 0 at k))
      go true k = refl
      go false (Ok to) = refl
      go false (Err (Malformed p)) = refl
      go false (Err (Forbidden p)) = refl

  container_anonymous : (b : Bracket) (inner : ℕ → ℕ → Read) → Anonymous (container L b inner)
  unfolding Anonymous container close_of size
  container_anonymous b inner ns ne at n = go (leb L.values n) (inner (at + 1) (n + 1))
    where
      go : (c : Bool) (R : Read) → tally n (cond c (bad (Many at)) (close_of b ns ne at R)) ≡ tally n (cond c (bad (Many at)) (close_of b 0 0 at R))
      go true R = refl
      go false (good f to) = refl
      go false (bad r) = refl

  with_anonymous : (arrays objects : Reader) → Anonymous arrays → Anonymous objects → Anonymous (value_with L t arrays objects)
  unfolding Anonymous value_with
  with_anonymous arrays objects a o ns ne at n = go (eqb kind 0) (eqb kind 6) (eqb kind 7)
    where
      kind : ℕ
      kind = kind_by (byte_at t at)

      go : (x y z : Bool) → tally n (cond x (bad (Grammar at)) (cond y (arrays ns ne at n) (cond z (objects ns ne at n) (scalar_at L t kind ns ne at n))))
          ≡ tally n (cond x (bad (Grammar at)) (cond y (arrays 0 0 at n) (cond z (objects 0 0 at n) (scalar_at L t kind 0 0 at n))))
      go true y z = refl
      go false true z = a ns ne at n
      go false false true = o ns ne at n
      go false false false = scalar_anonymous kind ns ne at n

  value_anonymous : (depth ns ne at n : ℕ) → tally n (value_at L t depth ns ne at n) ≡ value_c depth at n
  unfolding value_at Anonymous deep value_c
  value_anonymous zero = with_anonymous deep deep (λ ns ne at n. refl) (λ ns ne at n. refl)
  value_anonymous (suc depth) = with_anonymous _ _ (container_anonymous square _) (container_anonymous curly _)

  module _ (free : L.unique ≡ false) where
    -- ---- items

    colon_law : (depth at end n : ℕ) → tally n (colon_at t (value_at L t depth) at end n) ≡ colon_c depth end n
    unfolding colon_at colon_c
    colon_law depth at end n =
        let x = skip t end in
        tally_cond n (eqb (byte_at t x) 58) (value_at L t depth (at + 1) (end - 1) (skip t (x + 1)) n) (bad (Grammar x)) (value_anonymous depth (at + 1) (end - 1) (skip t (x + 1)) n) refl

    member_law : (depth : ℕ) (done : Forest) (at n : ℕ) (k : Result ℕ (Fault ℕ)) → tally n (member_with L t (value_at L t depth) done at n k) ≡ name_c depth n k
    unfolding member_with
    member_law depth done at n (Ok end) = ap (tally n) (failed L.unique _ (colon_at t (value_at L t depth) at end n) free) ∙ colon_law depth at end n
    member_law depth done at n (Err (Malformed p)) = refl
    member_law depth done at n (Err (Forbidden p)) = refl

    pub item_law : (depth : ℕ) (b : Bracket) (done : Forest) (at n : ℕ) → tally n (item_at L t depth b done at n) ≡ item_c depth b at n
    unfolding member_of item_c value_c
    item_law depth square done at n = refl
    item_law depth curly done at n =
        tally_cond n (eqb (byte_at t at) 34) (member_with L t (value_at L t depth) done at n (string_end t (at + 1))) (bad (Grammar at)) (member_law depth done at n (string_end t (at + 1))) refl

    -- the items that are done are counted before
    loop_law : (depth : ℕ) (b : Bracket) (turns at n m : ℕ) (done : Forest) → m + size done ≡ n
        → tally m (items_from t (item_at L t depth b) (closing b) turns at n done) ≡ loop_c depth b turns at n
    unfolding items_from loop_c after_item
    loop_law depth b zero at n m done e = refl
    loop_law depth b (suc turns) at n m done e =
        go (item_at L t depth b done at n) refl (λ x k f h. loop_law depth b turns x k m (join done f) h)
      where
        more : Forest → ℕ → Read
        more f to = items_from t (item_at L t depth b) (closing b) turns to (n + size f) (join done f)

        go : (R : Read) → item_at L t depth b done at n ≡ R
            → ((x k : ℕ) (f : Forest) → m + size (join done f) ≡ k → tally m (items_from t (item_at L t depth b) (closing b) turns x k (join done f)) ≡ loop_c depth b turns x k)
            → tally m (after_item t (closing b) done more R) ≡ bind (rest_by (λ x k. loop_c depth b turns x k) b) (item_c depth b at n)
        go (bad r) q next = rw (← item_law depth b done at n, q)
        go (good f to) q next =
            let s : m + size (join done f) ≡ n + size f = omega (arith, size_join done f) in
            let x = skip t to in
            rw (← item_law depth b done at n, q)
            (tally_cond m (eqb (byte_at t x) (closing b)) (good (join done f) (x + 1)) _ (ap (on (x + 1)) s)
            (tally_cond m (eqb (byte_at t x) 44) (more f (skip t (x + 1))) (bad (Grammar x)) (next (skip t (x + 1)) (n + size f) f s) refl))

    -- ---- the turns don't matter

    -- where an item ends
    Spans : (at : ℕ) → Went → Type 0
    Spans at (on to n) = (at ≤ to) × (to ≤ length t)
    Spans at (halt r) = Prim.Unit {0}

    spans_read : (at n : ℕ) (R : Read) → at ≤ place_of R → place_of R ≤ length t → Spans at (tally n R)
    unfolding Spans
    spans_read at n (good f to) h k = (h, k)
    spans_read at n (bad r) h k = tt

    item_spans : (depth : ℕ) (b : Bracket) (at n : ℕ) → at ≤ length t → Spans at (item_c depth b at n)
    item_spans depth b at n i =
        rw (item_law depth b none at n) at
        (spans_read at n (item_at L t depth b none at n)
        (told_place (λ x. at ≤ x) (Parsed L t (item b) depth (record { inside = 0; after = n; beside = none }) 0 0 at) (Viable L t (item b) at)
        (λ f to p. omega (arith, stands_to p.stands)) (λ q e l v. v.later) (item_at L t depth b none at n)
        (item_told L t depth b (record { inside = 0; after = n; beside = none }) at i))
        (item_within L t depth b none at n i))

    -- two ways to go on after an item, if they agree behind the next comma
    bind_same : (b : Bracket) (more other : ℕ → ℕ → Went) (at : ℕ) (w : Went) → Spans at w
        → ((x n : ℕ) → at < x → x ≤ length t → more x n ≡ other x n) → bind (rest_by more b) w ≡ bind (rest_by other b) w
    unfolding Spans
    bind_same b more other at (halt r) s h = refl
    bind_same b more other at (on to n) s h = cond_both (eqb (byte_at t x) (closing b)) refl (go (eqb (byte_at t x) 44) refl)
      where
        x : ℕ
        x = skip t to

        go : (c : Bool) → eqb (byte_at t x) 44 ≡ c → cond c (more (skip t (x + 1)) n) (halt (Grammar x)) ≡ cond c (other (skip t (x + 1)) n) (halt (Grammar x))
        go true e =
            let l = inside t x (omega (arith, eqb-true (byte_at t x) 44 e)) in
            h (skip t (x + 1)) n (omega (arith, skip_later t to, skip_later t (x + 1), s.0)) (skip_inside t (x + 1) (omega arith))
        go false e = refl

    turns_same : (depth : ℕ) (b : Bracket) (j k at n : ℕ) → length t < j + at → length t < k + at → at ≤ length t → loop_c depth b j at n ≡ loop_c depth b k at n
    unfolding loop_c
    turns_same depth b zero k at n h l i = absurd (omega arith)
    turns_same depth b (suc j) zero at n h l i = absurd (omega arith)
    turns_same depth b (suc j) (suc k) at n h l i =
        bind_same b (λ x m. loop_c depth b j x m) (λ x m. loop_c depth b k x m) at (item_c depth b at n) (item_spans depth b at n i)
        (λ x m g e. turns_same depth b j k x m (omega arith) (omega arith) e)

    -- the items from a place on: one, and then what follows it
    pub items_law : (depth : ℕ) (b : Bracket) (at n : ℕ) → at ≤ length t → items_c depth b at n ≡ bind (rest_c depth b) (item_c depth b at n)
    unfolding items_c loop_c rest_c
    items_law depth b at n i =
        bind_same b (λ x m. loop_c depth b (length t) x m) (λ x m. loop_c depth b (suc (length t)) x m) at (item_c depth b at n) (item_spans depth b at n i)
        (λ x m g e. turns_same depth b (length t) (suc (length t)) x m (omega arith) (omega arith) e)

    -- ---- values

    inside_law : (depth : ℕ) (b : Bracket) (at n : ℕ) → tally n (inside_of t (item_at L t depth b) (closing b) at n) ≡ inside_c depth b at n
    unfolding inside_of inside_c items_c size
    inside_law depth b at n =
        let x = skip t at in
        tally_cond n (eqb (byte_at t x) (closing b)) (good none (x + 1)) _ (ap (on (x + 1)) (add-zero n))
        (loop_law depth b (suc (length t)) x n n none (add-zero n))

    box_law : (depth : ℕ) (b : Bracket) (inner : ℕ → ℕ → Read) (at n : ℕ) → tally (n + 1) (inner (at + 1) (n + 1)) ≡ inside_c depth b (at + 1) (n + 1)
        → tally n (container L b inner 0 0 at n) ≡ box_c (suc depth) b at n
    unfolding container close_of box_c size
    box_law depth b inner at n e = tally_cond n (leb L.values n) (bad (Many at)) _ refl (go (inner (at + 1) (n + 1)) e)
      where
        go : (R : Read) → tally (n + 1) R ≡ inside_c depth b (at + 1) (n + 1) → tally n (close_of b 0 0 at R) ≡ inside_c depth b (at + 1) (n + 1)
        go (good f to) h = let s : n + suc (size f + 0) ≡ n + 1 + size f = omega arith in ap (on to) s ∙ h
        go (bad r) h = h

    scalar_law : (kind at n : ℕ) → tally n (scalar_at L t kind 0 0 at n) ≡ scalar_c kind at n
    unfolding scalar_at scalar_with scalar_c size
    scalar_law kind at n = tally_cond n (leb L.values n) (bad (Many at)) _ refl (go (token_at t kind at))
      where
        go : (k : Result ℕ (Fault ℕ)) → tally n (scalar_with kind 0 0 at k) ≡ token_c (n + 1) k
        go (Ok to) = refl
        go (Err (Malformed p)) = refl
        go (Err (Forbidden p)) = refl

    -- a value by its first byte
    pub value_law : (depth at n : ℕ) → value_c depth at n
        ≡ cond (eqb (kind_by (byte_at t at)) 0) (halt (Grammar at))
        (cond (eqb (kind_by (byte_at t at)) 6) (box_c depth square at n)
        (cond (eqb (kind_by (byte_at t at)) 7) (box_c depth curly at n) (scalar_c (kind_by (byte_at t at)) at n)))
    unfolding value_c value_at value_with deep box_c
    value_law zero at n =
        let kind = kind_by (byte_at t at) in
        tally_cond n (eqb kind 0) (bad (Grammar at)) _ refl
        (tally_cond n (eqb kind 6) (bad (Deep at)) _ refl (tally_cond n (eqb kind 7) (bad (Deep at)) _ refl (scalar_law kind at n)))
    value_law (suc depth) at n =
        let kind = kind_by (byte_at t at) in
        tally_cond n (eqb kind 0) (bad (Grammar at)) _ refl
        (tally_cond n (eqb kind 6) _ _ (box_law depth square (inside_of t (item_at L t depth square) (closing square)) at n (inside_law depth square (at + 1) (n + 1)))
        (tally_cond n (eqb kind 7) _ _ (box_law depth curly (inside_of t (item_at L t depth curly) (closing curly)) at n (inside_law depth curly (at + 1) (n + 1))) (scalar_law kind at n)))
