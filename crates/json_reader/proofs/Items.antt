-- Laws of the items of a container: what holds at the head of the loop that reads them, of the definition, the table and the store of names, and how a turn
-- ends or goes on. Assumes nothing.
use Rattle.std.specs.Prelude.{Ok}
use mathlib.Core.Path.{◌≡◌, refl, sym, ap, ◌∙◌}
use mathlib.Core.List.{List, [], ◌∷◌, ◌++◌, append_assoc, append-nil}
use Prim.Native.Nat.{ℕ, zero, suc, ◌+◌, ◌*◌, ◌≤◌, ◌<◌}
use native.Mathlib.Omega.{arith}
use native.Mathlib.Nat.{add-zero}
use borrow.Author.Tests.{eq-eqb, ne_eqb}
use lib.ListN.{length}
use lib.Seq.{sets, length-sets}
use Rattle.laws.proofs.Places.{inside}
use Rattle.text.specs.Limits.{row_words, base}
use Rattle.text.specs.Text.{byte_at}
use Rattle.text.specs.Words.{links_at}
use Rattle.text.specs.Tokens.{skip}
use Rattle.text.specs.Tree.{Bracket, Forest, none, size, rows_of, join}
use Rattle.text.specs.Grammar.{closing}
use Rattle.text.specs.Reader.{good, bad, ItemReader, after_item, items_from, inside_of}
use Rattle.text.specs.declared.Refusal.{Refusal}
use Rattle.text.specs.declared.Refusal.TheVariants.{Grammar}
use Rattle.text.proofs.Grammar.Sound.{byte_closing}
use Rattle.text.proofs.TokenEnds.{skip_span}
use Rattle.text.proofs.Stores.{size_join, rows_link, rows_then}
use Rattle.repeats.specs.Closed.{closed_after, closed_from, closed_in}
use Rattle.json_reader.specs.Readers.{Added, Further, Gone}
use Rattle.json_reader.proofs.Ways.{OneValue}
use Rattle.json_reader.proofs.Store.{added_none, added_then}

-- where the items of a container start
pub record Open (t : List ℕ) (z from start : ℕ) : Type 0 where
  pub is : start ≡ skip t from
  pub some : byte_at t start ≡ z → ⊥

module _ (t : List ℕ) (own : ℕ → List ℕ) (item : ItemReader) where
  -- ---- nothing inside

  module _ (b : Bracket) (from start first : ℕ) (e : start ≡ skip t from) (h : byte_at t start ≡ closing b) where
    is_none : inside_of t item (closing b) from first ≡ good none (start + 1)
    unfolding inside_of
    is_none = rw (← e, eq-eqb _ _ h)

    closed_none : closed_in t own item (closing b) from first ≡ []
    unfolding closed_in
    closed_none = rw (← e, eq-eqb _ _ h)

    pub inside_none : (old : List ℕ) → from ≤ length t → first ≤ base.values → (parent : ℕ) → Gone parent (inside_of t item (closing b) from first) t from first old old (start + 1) first
    unfolding size rows_of
    inside_none old i f parent =
        let l = skip_span t from i in
        let k = byte_closing b in
        record {
          trees = none;
          is = is_none;
          count = sym (add-zero first);
          table = refl;
          later = omega arith;
          inside = omega (arith, inside t start (omega arith));
          few = f;
        }

    pub names_none : (top : ℕ) (names : List ℕ) → top ≤ length names → Added (closed_in t own item (closing b) from first) top names top names
    names_none top names r = rw closed_none (added_none top names r)

  -- ---- something inside

  module _ {z from start : ℕ} (first : ℕ) (o : Open t z from start) where
    is_some : inside_of t item z from first ≡ items_from t item z (suc (length t)) start first none
    unfolding inside_of
    is_some = rw (← o.is, ne_eqb _ _ o.some)

    closed_some : closed_in t own item z from first ≡ closed_from t own item z (suc (length t)) start first none
    unfolding closed_in
    closed_some = rw (← o.is, ne_eqb _ _ o.some)

-- `done` are the items read from `start` up to `at`, `gathered` the names that they closed, and both definitions have gone as far; the last of them
-- has row n as its next sibling
pub record Upto (parent : ℕ) (t : List ℕ) (own : ℕ → List ℕ) (item : ItemReader) (z start first top : ℕ) (old names : List ℕ) (at n end : ℕ) (new names' : List ℕ) : Type 0 where
  pub turns : ℕ
  pub done : Forest
  pub gathered : List ℕ
  pub enough : length t < turns + at
  pub is : items_from t item z (suc (length t)) start first none ≡ items_from t item z turns at n done
  pub closed : closed_from t own item z (suc (length t)) start first none ≡ gathered ++ closed_from t own item z turns at n done
  pub count : n ≡ first + size done
  pub table : new ≡ sets old (first * row_words) (rows_of parent first n done)
  pub added : Added gathered top names end names'
  pub later : start ≤ at
  pub within : at ≤ length t
  pub few : n ≤ base.values
  pub fewer : end < n
  pub spread : 4 * end < at

module _ {parent : ℕ} {t : List ℕ} {own : ℕ → List ℕ} {item : ItemReader} {z start first top : ℕ} {old names : List ℕ} where
  pub upto_none : start ≤ length t → first ≤ base.values → top ≤ length names → top < first → 4 * top < start
      → Upto parent t own item z start first top old names start first top old names
  unfolding size rows_of
  upto_none i f r h k =
      record {
        turns = suc (length t);
        done = none;
        gathered = [];
        enough = omega arith;
        is = refl;
        closed = refl;
        count = sym (add-zero first);
        table = refl;
        added = added_none top names r;
        later = omega arith;
        within = i;
        few = f;
        fewer = h;
        spread = k;
      }

  module _ {at n end : ℕ} {new names' : List ℕ} (u : Upto parent t own item z start first top old names at n end new names') where
    pub upto_length : length new ≡ length old
    upto_length = ap length u.table ∙ length-sets old (first * row_words) (rows_of parent first n u.done)

    -- the definitions have a turn left for the item at hand
    record Step : Type 0 where
      turns : ℕ
      enough : length t < suc turns + at
      is : items_from t item z (suc (length t)) start first none
          ≡ after_item t z u.done (λ f to. items_from t item z turns to (n + size f) (join u.done f)) (item u.done at n)
      closed : closed_from t own item z (suc (length t)) start first none
          ≡ u.gathered ++ (own at ++ closed_after t own item z (λ f x. closed_from t own item z turns x (n + size f) (join u.done f)) (item u.done at n))

    step : Step
    unfolding items_from closed_from
    step = go u.turns u.enough u.is u.closed
      where
        go : (k : ℕ) → length t < k + at → items_from t item z (suc (length t)) start first none ≡ items_from t item z k at n u.done
            → closed_from t own item z (suc (length t)) start first none ≡ u.gathered ++ closed_from t own item z k at n u.done → Step
        go zero e is closed = let i = u.within in absurd (omega arith)
        go (suc k) e is closed = record { turns = k; enough = e; is = is; closed = closed }

    -- the names that are closed behind the item at hand
    behind : List ℕ
    behind = closed_after t own item z (λ f x. closed_from t own item z step.turns x (n + size f) (join u.done f)) (item u.done at n)

    -- the item's own name, behind those that were gathered
    module _ {more : ℕ} {names'' : List ℕ} (a : Added (own at) end names' more names'') where
      -- if no more follow, these are all
      all : {from : ℕ} → Open t z from start → behind ≡ [] → Added (closed_in t own item z from first) top names more names''
      unfolding behind
      all o e = rw (closed_some t own item first o, step.closed, e, append-nil) (added_then u.added a)

      -- a refused item
      pub stop_names : {from : ℕ} {r : Refusal} → Open t z from start → item u.done at n ≡ bad r → Added (closed_in t own item z from first) top names more names''
      unfolding behind
      stop_names o e = all o (rw e)

    pub upto_stop : {from : ℕ} {r : Refusal} → Open t z from start → item u.done at n ≡ bad r → inside_of t item z from first ≡ bad r
    unfolding after_item
    upto_stop o e = is_some t own item first o ∙ rw (step.is, e)

    -- an item that was read, and the place x after the white space behind it
    module _ {to after : ℕ} {last : List ℕ} (g : Gone 0 (item u.done at n) t at n new last to after) (x : ℕ) (s : x ≡ skip t to) where
      after_span : (to ≤ x) × (x ≤ length t)
      after_span = let l = skip_span t to g.inside in omega arith

      -- neither the closing byte nor a comma
      module _ {from : ℕ} (o : Open t z from start) (h₁ : byte_at t x ≡ z → ⊥) (h₂ : byte_at t x ≡ 44 → ⊥) where
        pub upto_bad : inside_of t item z from first ≡ bad (Grammar x)
        unfolding after_item
        upto_bad = is_some t own item first o ∙ rw (step.is, g.is, ← s, ne_eqb _ _ h₁, ne_eqb _ _ h₂)

        pub bad_names : {more : ℕ} {names'' : List ℕ} → Added (own at) end names' more names'' → Added (closed_in t own item z from first) top names more names''
        unfolding behind
        bad_names a = all a o (rw (g.is, ← s, ne_eqb _ _ h₁, ne_eqb _ _ h₂))

      -- the table once the item has its parent and its next sibling
      table : OneValue (item u.done at n) → (next : ℕ) {linked : List ℕ} → linked ≡ sets last (links_at n) (parent ∷ next ∷ [])
          → linked ≡ sets old (first * row_words) (rows_of parent first next (join u.done g.trees))
      table one next e =
          let (some, alone) = rw g.is at one in
          e
          ∙ ap (λ (l : List ℕ). sets l (links_at n) (parent ∷ next ∷ [])) g.table
          ∙ rows_link g.trees new n parent next some alone
          ∙ ap (λ (l : List ℕ). sets l (n * row_words) (rows_of parent n next g.trees)) u.table
          ∙ rows_then parent next u.done g.trees old first n u.count some

      count : after ≡ first + size (join u.done g.trees)
      count = omega (arith, size_join u.done g.trees)

      -- the closing byte
      module _ {from : ℕ} (o : Open t z from start) (e : byte_at t x ≡ z) where
        is_done : inside_of t item z from first ≡ good (join u.done g.trees) (x + 1)
        unfolding after_item
        is_done = is_some t own item first o ∙ rw (step.is, g.is, ← s, eq-eqb _ _ e)

        pub upto_done : OneValue (item u.done at n) → {linked : List ℕ} → linked ≡ sets last (links_at n) (parent ∷ 0 ∷ []) → from ≤ length t → z < 256
            → Gone parent (inside_of t item z from first) t from first old linked (x + 1) after
        upto_done one k i h =
            let l = skip_span t from i in
            let m = after_span in
            record {
              trees = join u.done g.trees;
              is = is_done;
              count = count;
              table = table one 0 k;
              later = omega (arith, o.is, u.later, g.later);
              inside = omega (arith, inside t x (omega arith));
              few = g.few;
            }

        pub done_names : {more : ℕ} {names'' : List ℕ} → Added (own at) end names' more names'' → Added (closed_in t own item z from first) top names more names''
        unfolding behind
        done_names a = all a o (rw (g.is, ← s, eq-eqb _ _ e))

      -- a comma
      module _ (h : byte_at t x ≡ z → ⊥) (e : byte_at t x ≡ 44) (next : ℕ) (q : next ≡ skip t (x + 1)) where
        is_more : items_from t item z (suc (length t)) start first none ≡ items_from t item z step.turns next after (join u.done g.trees)
        unfolding after_item
        is_more = rw (step.is, g.is, ← s, ne_eqb _ _ h, eq-eqb _ _ e, g.count, q)

        closed_more : closed_from t own item z (suc (length t)) start first none
            ≡ (u.gathered ++ own at) ++ closed_from t own item z step.turns next after (join u.done g.trees)
        closed_more = rw (append_assoc u.gathered, step.closed, g.is, ← s, ne_eqb _ _ h, eq-eqb _ _ e, g.count, q)

        pub more_later : (at < next) × (next ≤ length t)
        more_later =
            let i = inside t x (omega arith) in
            let l = skip_span t (x + 1) (omega arith) in
            let m = after_span in
            omega (arith, g.later)

        pub upto_more : OneValue (item u.done at n) → {linked : List ℕ} → linked ≡ sets last (links_at n) (parent ∷ after ∷ [])
            → {more : ℕ} {names'' : List ℕ} → Added (own at) end names' more names'' → Further more (Ok (to, after))
            → Upto parent t own item z start first top old names next after more linked names''
        upto_more one k a f =
            let i = inside t x (omega arith) in
            let l = skip_span t (x + 1) (omega arith) in
            let m = after_span in
            record {
              turns = step.turns;
              done = join u.done g.trees;
              gathered = u.gathered ++ own at;
              enough = omega (arith, step.enough, g.later);
              is = is_more;
              closed = closed_more;
              count = count;
              table = table one after k;
              added = added_then u.added a;
              later = omega (arith, u.later, g.later);
              within = omega arith;
              few = g.few;
              fewer = f.0;
              spread = omega (arith, f.1);
            }
