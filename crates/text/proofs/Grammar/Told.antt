-- What an answer says (proofs/Grammar/Sound.antt), by induction on the definition: the containers that may be opened, then the turns.
--     value-told, item-told           what is read of a value and of an item
--     item-names                      the name of an item that is read spells
-- Assumes nothing.
use Rattle.std.specs.Prelude.{Result, Ok, Err}
use Rattle.text.specs.declared.Fault.{Fault}
use Rattle.text.specs.declared.Fault.TheVariants.{Malformed, Forbidden}
use mathlib.Core.Path.{◌≡◌, refl, sym, ap, ap₂, subst, ◌∙◌}
use mathlib.Core.List.{List, [], ◌∷◌, ◌++◌, append_assoc}
use mathlib.Core.Bool.{Bool, true, false, cond}
use Prim.Native.Nat.{ℕ, zero, suc, ◌+◌, ◌-◌, ◌≤◌, ◌<◌}
use native.Mathlib.Omega.{arith}
use native.Mathlib.Nat.{le_refl}
use lib.ListN.{length}
use lib.Dec.{eqb}
use Rattle.laws.specs.Lists.{part_of}
use Rattle.laws.proofs.Branches.{if_equal, if_most, if_true}
use Rattle.laws.proofs.Places.{inside}
use Rattle.laws.proofs.Parts.{part_none}
use Rattle.text.specs.Limits.{Limits}
use Rattle.text.specs.Text.{byte_at}
use Rattle.text.specs.Strings.{string_end, name_of}
use Rattle.text.specs.Spelling.{Spells}
use Rattle.text.specs.Tokens.{skip, kind_by}
use Rattle.text.specs.Tree.{Bracket, square, curly, Forest}
use Rattle.text.specs.Reader.{Read, good, bad, Reader, ItemReader, scalar_with, scalar_at, deep, value_with, named, colon_at, member_with, member_of, value_at}
use Rattle.text.specs.Abnf.{Star}
use Rattle.text.specs.Grammar.{Ws, JsonString, Simple, simple_kind, IsSimple, value, item, Is, simple, empty, full, element, member, tree_of}
use Rattle.text.specs.Seats.{Seat, Sits}
use Rattle.text.specs.declared.Refusal.TheVariants.{Grammar}
use Rattle.text.proofs.Grammar.Stands.{clash, BytesStand, Like, stands_join, stands_to, stands_inside, like_none, like_stands, like_more, like_join, like_less}
use Rattle.text.proofs.Grammar.Exact.{HasWord, Begun, TokenSays}
use Rattle.text.proofs.Grammar.Quotes.{quoted_at, string_exact, string_long}
use Rattle.text.proofs.Grammar.Words.{skip_told, simple_of, simple_exact, Lead, no_value, a_simple, a_bracket, lead, lead_opens, token_simple, kind_text, kind_way}
use Rattle.text.proofs.Grammar.Names.{NamesSpell}
use Rattle.text.proofs.Grammar.Wrong.{GoodName, Kept, kept_leaf}
use Rattle.text.proofs.Grammar.Rules.{end_quoted}
use Rattle.text.proofs.Grammar.Sound.{Told, stopped_map, glued, glue, null_value, Parsed, Viable, glued_stands, some_value, some_bracket, container_told}

-- the items of a container at a place
abbrev pub item_at : Limits → List ℕ → ℕ → Bracket → ItemReader
item_at L t depth square = λ done. value_at L t depth 0 0
item_at L t depth curly = member_of L t (value_at L t depth)

pub no_two : {A : Type 0} {k : (Result ℕ (Fault ℕ))} {p x : ℕ} → k ≡ Err (Malformed p) → k ≡ Err (Forbidden x) → A
no_two {A} {k} {p} {x} e f = let z : Err (Malformed p) ≡ Err (Forbidden x) = sym e ∙ f in let o : ◌≡◌ {A = ℕ} 0 1 = cc in absurd (omega arith)

pub no_end : {A : Type 0} {k : (Result ℕ (Fault ℕ))} {p x : ℕ} → k ≡ Err (Malformed p) → k ≡ Ok x → A
no_end {A} {k} {p} {x} e f = let z : Err (Malformed p) ≡ Ok x = sym e ∙ f in let o : ◌≡◌ {A = ℕ} 0 1 = cc in absurd (omega arith)

pub three_end : {A : Type 0} {k : (Result ℕ (Fault ℕ))} {p x : ℕ} → k ≡ Err (Forbidden p) → k ≡ Ok x → A
three_end {A} {k} {p} {x} e f = let z : Err (Forbidden p) ≡ Ok x = sym e ∙ f in let o : ◌≡◌ {A = ℕ} 0 1 = cc in absurd (omega arith)

pub same_three : {k : (Result ℕ (Fault ℕ))} {p x : ℕ} → k ≡ Err (Forbidden p) → k ≡ Err (Forbidden x) → p ≡ x
same_three {k} {p} {x} e f = let z : Err (Forbidden p) ≡ Err (Forbidden x) = sym e ∙ f in cc

module _ (L : Limits) (t : List ℕ) where
  -- ---- a value that holds no others ----

  scalar_told : (k : Simple) (w : List ℕ) (depth : ℕ) (c : Seat) (ns ne at : ℕ) → byte_at t at < 256 → IsSimple k (byte_at t at ∷ w) → GoodName L t c.beside ns ne → at ≤ length t
      → Told (Parsed L t value depth c ns ne at) (Viable L t value at) (scalar_at L t (simple_kind k) ns ne at c.after)
  unfolding scalar_at scalar_with tree_of
  scalar_told k w depth c ns ne at b d g i =
      if_most (Told (Parsed L t value depth c ns ne at) (Viable L t value at)) L.values c.after
      (λ m. record {
        word = byte_at t at ∷ w;
        is = simple k d;
        like = Like.next (λ l. refl) (like_none w (le_refl (at + 1)));
        later = le_refl at;
        within = omega (arith, inside t at b);
      })
      (λ m. rw (token_simple t k at (lead_opens k (byte_at t at) w d)) (go m (simple_of t k at) refl ((simple_exact t k).told at i)))
    where
      go : c.after < L.values → (key : Result ℕ (Fault ℕ)) → simple_of t k at ≡ key → TokenSays t (IsSimple k) at key
          → Told (Parsed L t value depth c ns ne at) (Viable L t value at) (scalar_with (simple_kind k) ns ne at key)
      go m (Ok to) e s =
          record {
            word = s.word;
            is = simple k s.is;
            stands = s.stands;
            trees = rw (stands_to s.stands);
            kept = kept_leaf L t g m (λ o. sym (kind_text t k at o) ∙ e);
          }
      go m (Err (Malformed q)) e s =
          record {
            word = s.word;
            is = simple k s.is;
            like = s.like;
            later = s.later;
            within = s.within;
          }
      go m (Err (Forbidden q)) e s =
          record {
            word = s.word;
            is = simple k s.is;
            like = s.like;
            later = s.later;
            within = s.within;
          }

  -- ---- a value by its first byte ----

  with_told : (arrays objects : Reader) (depth : ℕ) (c : Seat) (ns ne at : ℕ) → GoodName L t c.beside ns ne → at ≤ length t
      → (byte_at t at ≡ 91 → Told (Parsed L t value depth c ns ne at) (Viable L t value at) (arrays ns ne at c.after))
      → (byte_at t at ≡ 123 → Told (Parsed L t value depth c ns ne at) (Viable L t value at) (objects ns ne at c.after))
      → Told (Parsed L t value depth c ns ne at) (Viable L t value at) (value_with L t arrays objects ns ne at c.after)
  unfolding value_with
  with_told arrays objects depth c ns ne at g i a o = go (kind_by (byte_at t at)) (lead (byte_at t at))
    where
      P : Read → Type 0
      P = Told (Parsed L t value depth c ns ne at) (Viable L t value at)

      go : (kind : ℕ) → Lead (byte_at t at) kind
          → P (cond (eqb kind 0) (bad (Grammar at)) (cond (eqb kind 6) (arrays ns ne at c.after)
          (cond (eqb kind 7) (objects ns ne at c.after) (scalar_at L t kind ns ne at c.after))))
      go kind no_value = some_value L t at i
      go kind (a_bracket square e) = a e
      go kind (a_bracket curly e) = o e
      go kind (a_simple k w b d) = subst P (sym (kind_way k _ _ _ _)) (scalar_told k w depth c ns ne at b d g i)

  -- ---- a member ----

  -- the beginning of a member: the beginning of its name, or its name, and then what could follow
  name_begun : {at q e : ℕ} → Begun t JsonString at q e → Viable L t (item curly) at q e
  name_begun b =
      record { word = b.word ++ (58 ∷ 110 ∷ 117 ∷ 108 ∷ 108 ∷ []); is = member b.is Star.none Star.none null_value; like = like_more _ b.like; later = b.later; within = b.within }

  -- a member whose name is read, up to its value
  module _ (depth : ℕ) (c : Seat) (at end : ℕ) (i : at ≤ length t) (m : HasWord t JsonString at end) where
    module _ (k : byte_at t (skip t end) ≡ 58) where
      s : HasWord t Ws end (skip t end)
      s = skip_told t end

      r : HasWord t Ws (skip t end + 1) (skip t (skip t end + 1))
      r = skip_told t (skip t end + 1)

      g : BytesStand t at (skip t (skip t end + 1)) (glued 58 m.word s.word r.word [])
      g = glued_stands L t i (omega arith) m.stands k s r

      whole : {w : List ℕ} (d : Is value w) → tree_of d (at + 1) (end - 1) (skip t (skip t end + 1)) ≡ tree_of (member m.is s.is r.is d) 0 0 at
      unfolding tree_of
      whole d =
          let x : end ≡ at + length m.word = stands_to m.stands in
          let y : skip t (skip t end + 1) ≡ at + length m.word + length s.word + 1 + length r.word = omega (arith, stands_to s.stands, stands_to r.stands) in
          ap₂ (λ (a b : ℕ). tree_of d (at + 1) a b) (ap (λ (e : ℕ). e - 1) x) y

      valued : (R : Read) → Told (Parsed L t value depth c (at + 1) (end - 1) (skip t (skip t end + 1))) (Viable L t value (skip t (skip t end + 1))) R
          → Told (Parsed L t (item curly) depth c 0 0 at) (Viable L t (item curly) at) R
      valued (bad x) h =
          stopped_map (Viable L t value (skip t (skip t end + 1))) (Viable L t (item curly) at) (λ q e v.
          record {
            word = glued 58 m.word s.word r.word v.word;
            is = member m.is s.is r.is v.is;
            like = rw (glue 58 m.word s.word r.word v.word) at (like_join g v.like);
            later = omega (arith, stands_to g, v.later);
            within = v.within;
          }) x h
      valued (good f to) h =
          record {
            word = glued 58 m.word s.word r.word h.word;
            is = member m.is s.is r.is h.is;
            stands = rw (glue 58 m.word s.word r.word h.word) at (stands_join g h.stands);
            trees = h.trees ∙ whole h.is;
            kept = h.kept;
          }

    colon_told : (read : Reader) → quoted_at t at ≡ Ok end → (L.unique ≡ true → named t (name_of t (at + 1) (end - 1)) c.beside ≡ false)
        → ((at : ℕ) (ns ne : ℕ) → GoodName L t c.beside ns ne → at ≤ length t → Told (Parsed L t value depth c ns ne at) (Viable L t value at) (read ns ne at c.after))
        → Told (Parsed L t (item curly) depth c 0 0 at) (Viable L t (item curly) at) (colon_at t read at end c.after)
    unfolding colon_at tree_of
    colon_told read e new told =
        let x = skip t end in
        let s = skip_told t end in
        let l = stands_join m.stands s.stands in
        let o : end - 1 + 1 ≡ end = omega (arith, stands_to m.stands, string_long m.is) in
        let named : GoodName L t c.beside (at + 1) (end - 1) = record { closed = λ j k. let y : at ≡ j = omega arith in rw (← y, o) e; new = λ u j k. new u } in
        if_equal (Told (Parsed L t (item curly) depth c 0 0 at) (Viable L t (item curly) at)) (byte_at t x) 58
        (λ k. valued k (read (at + 1) (end - 1) (skip t (x + 1)) c.after) (told (skip t (x + 1)) (at + 1) (end - 1) named (stands_inside (g k) i)))
        (λ k. record {
          word = glued 58 m.word s.word [] (110 ∷ 117 ∷ 108 ∷ 108 ∷ []);
          is = member m.is s.is Star.none null_value;
          like = rw (append_assoc m.word s.word (58 ∷ 110 ∷ 117 ∷ 108 ∷ 108 ∷ [])) at (like_more (58 ∷ 110 ∷ 117 ∷ 108 ∷ 108 ∷ []) (like_stands l));
          later = omega (arith, stands_to l);
          within = stands_inside l i;
        })

  member_told : (read : Reader) (depth : ℕ) (c : Seat) (at : ℕ) → at ≤ length t
      → ((at : ℕ) (ns ne : ℕ) → GoodName L t c.beside ns ne → at ≤ length t → Told (Parsed L t value depth c ns ne at) (Viable L t value at) (read ns ne at c.after))
      → (key : Result ℕ (Fault ℕ)) → quoted_at t at ≡ key → TokenSays t JsonString at key
      → Told (Parsed L t (item curly) depth c 0 0 at) (Viable L t (item curly) at) (member_with L t read c.beside at c.after key)
  unfolding member_with
  member_told read depth c at i told (Err (Malformed q)) e b = name_begun b
  member_told read depth c at i told (Err (Forbidden q)) e b = name_begun b
  member_told read depth c at i told (Ok end) e m =
      let P = Told (Parsed L t (item curly) depth c 0 0 at) (Viable L t (item curly) at) in
      let l = stands_to m.stands in
      let n = string_long m.is in
      if_true P L.unique
      (λ u. if_true P (named t (name_of t (at + 1) (end - 1)) c.beside)
      (λ d. name_begun (record {
        word = m.word;
        is = m.is;
        like = like_less (omega arith) (like_stands m.stands);
        later = le_refl at;
        within = omega (arith, stands_inside m.stands i);
      }))
      (λ d. colon_told depth c at end i m read e (λ v. d) told))
      (λ u. colon_told depth c at end i m read e (λ v. clash L.unique v u) told)

  -- the reader of members asks for the quote first
  pub quote_first : (read : Reader) (before : Forest) (at n : ℕ) → member_of L t read before at n ≡ member_with L t read before at n (quoted_at t at)
  unfolding member_of member_with
  quote_first read before at n = go (eqb (byte_at t at) 34)
    where
      go : (c : Bool) → cond c (member_with L t read before at n (string_end t (at + 1))) (bad (Grammar at)) ≡ member_with L t read before at n (cond c (string_end t (at + 1)) (Err (Malformed at)))
      go true = refl
      go false = refl

  -- ---- items and values ----

  element_told : (depth : ℕ) (c : Seat) (at : ℕ) (R : Read) → Told (Parsed L t value depth c 0 0 at) (Viable L t value at) R
      → Told (Parsed L t (item square) depth c 0 0 at) (Viable L t (item square) at) R
  unfolding tree_of
  element_told depth c at (bad r) h =
      stopped_map (Viable L t value at) (Viable L t (item square) at) (λ q e v. record { word = v.word; is = element v.is; like = v.like; later = v.later; within = v.within }) r h
  element_told depth c at (good f to) h = record { word = h.word; is = element h.is; stands = h.stands; trees = h.trees; kept = h.kept }

  -- a value that has no name
  pub no_name : (before : Forest) → GoodName L t before 0 0
  no_name before = record { closed = λ j k. absurd (omega arith); new = λ u j k. absurd (omega arith) }

  item_from : (depth : ℕ)
      → ((c : Seat) (ns ne at : ℕ) → GoodName L t c.beside ns ne → at ≤ length t → Told (Parsed L t value depth c ns ne at) (Viable L t value at) (value_at L t depth ns ne at c.after))
      → (b : Bracket) (c : Seat) (at : ℕ) → at ≤ length t
      → Told (Parsed L t (item b) depth c 0 0 at) (Viable L t (item b) at) (item_at L t depth b c.beside at c.after)
  item_from depth told square c at i = element_told depth c at (value_at L t depth 0 0 at c.after) (told c 0 0 at (no_name c.beside) i)
  item_from depth told curly c at i =
      rw (quote_first (value_at L t depth) c.beside at c.after)
      (member_told (value_at L t depth) depth c at i (λ at ns ne g j. told c ns ne at g j) (quoted_at t at) refl ((string_exact t).told at i))

  pub value_told : (depth : ℕ) (c : Seat) (ns ne at : ℕ) → GoodName L t c.beside ns ne → at ≤ length t
      → Told (Parsed L t value depth c ns ne at) (Viable L t value at) (value_at L t depth ns ne at c.after)
  unfolding value_at deep
  value_told zero c ns ne at g i =
      with_told deep deep zero c ns ne at g i
      (λ e. some_bracket L t at i square e)
      (λ e. some_bracket L t at i curly e)
  value_told (suc depth) c ns ne at g i =
      let told = item_from depth (value_told depth) in
      with_told _ _ (suc depth) c ns ne at g i
      (λ e. container_told L t square depth (item_at L t depth square) (told square) c ns ne at g e i)
      (λ e. container_told L t curly depth (item_at L t depth curly) (told curly) c ns ne at g e i)

  pub item_told : (depth : ℕ) (b : Bracket) (c : Seat) (at : ℕ) → at ≤ length t
      → Told (Parsed L t (item b) depth c 0 0 at) (Viable L t (item b) at) (item_at L t depth b c.beside at c.after)
  item_told depth = item_from depth (value_told depth)

  -- ---- the name of an item that is read ----

  first_name : {w : List ℕ} {depth ns ne : ℕ} (c : Seat) (at : ℕ) (d : Is value w) → Kept L t depth c (tree_of d ns ne at) → GoodName L t c.beside ns ne
  unfolding tree_of
  first_name c at (simple k l) h = (h.sane c _ Sits.leaf_here).names
  first_name c at (empty b p) h = (h.sane c _ Sits.node_here).names
  first_name c at (full b p d) h = (h.sane c _ Sits.node_here).names

  value_names : {w codes : List ℕ} (d : Is value w) (ns ne at : ℕ) → Spells (part_of t ns ne) codes → NamesSpell t (tree_of d ns ne at)
  unfolding tree_of
  value_names (simple k l) ns ne at h = NamesSpell.a_leaf h NamesSpell.no_more
  value_names (empty b p) ns ne at h = NamesSpell.a_node h NamesSpell.no_more
  value_names (full b p d) ns ne at h = NamesSpell.a_node h NamesSpell.no_more

  derived_names : {b : Bracket} {w : List ℕ} (depth : ℕ) (c : Seat) (at : ℕ) (d : Is (item b) w) → Kept L t depth c (tree_of d 0 0 at) → NamesSpell t (tree_of d 0 0 at)
  unfolding tree_of
  derived_names depth c at (element d) h = value_names {codes = []} d 0 0 at (rw (part_none t 0 (omega arith)) Spells.none)
  derived_names depth c at (member {m} {s} {r} g p o d) h =
      let last : at + length m - 1 + 1 - 1 ≡ at + length m - 1 = omega arith in
      let begin = at + length m + length s + 1 + length r in
      value_names d (at + 1) (at + length m - 1) begin (rw last at (end_quoted t at ((first_name c begin d h).closed at refl)).spells)

  pub item_names : (depth : ℕ) (b : Bracket) (c : Seat) (at : ℕ) {f : Forest} {to : ℕ} → at ≤ length t → item_at L t depth b c.beside at c.after ≡ good f to → NamesSpell t f
  item_names depth b c at {f} {to} i e =
      let p : Parsed L t (item b) depth c 0 0 at f to = subst (Told (Parsed L t (item b) depth c 0 0 at) (Viable L t (item b) at)) e (item_told depth b c at i) in
      subst (NamesSpell t) (sym p.trees) (derived_names depth c at p.is (subst (Kept L t depth c) p.trees p.kept))
