-- What an answer of the definition says. Accepted: a part of the grammar stands there, with its tree, and its values are as they should be. Refused: the
-- bytes before the refusal's place begin such a part, and but for 2 so does the byte at the place.
-- This file has the parts that hold others; proofs/Grammar/Told.antt goes by induction on the definition. Assumes nothing.
use mathlib.Core.Path.{◌≡◌, sym, ap, ap₂, subst, ◌∙◌}
use mathlib.Core.List.{List, [], ◌∷◌, ◌++◌, append_assoc, append-nil}
use Prim.Native.Nat.{ℕ, zero, suc, ◌+◌, ◌≤◌, ◌<◌}
use native.Mathlib.Omega.{arith}
use native.Mathlib.Nat.{le_refl}
use lib.ListN.{length, length-append}
use Rattle.laws.proofs.Places.{inside}
use Rattle.laws.proofs.Branches.{if_most, if_equal}
use Rattle.text.specs.Limits.{Limits}
use Rattle.text.specs.Text.{byte_at}
use Rattle.text.specs.Tokens.{skip}
use Rattle.text.specs.Tree.{Bracket, square, curly, Forest, none, node, join}
use Rattle.text.specs.Reader.{Read, good, bad, ItemReader, close_of, container, after_item, items_from, inside_of}
use Rattle.text.specs.Abnf.{exactly, Star}
use Rattle.text.specs.Grammar.{Ws, quoted, nothing, opening, Phrase, value, item, items, Is, simple, empty, full, element, member, one, comma, tree_of, closing}
use Rattle.text.specs.Seats.{Seat, under, behind}
use Rattle.text.specs.declared.Refusal.{Refusal}
use Rattle.text.specs.declared.Refusal.TheVariants.{TooLong, Grammar, Character, Repeated, Deep, Many, Small}
use Rattle.text.proofs.Grammar.Stands.{BytesStand, Like, one_stands, stands_join, stands_to, stands_inside, like_none, like_stands, like_more, like_join}
use Rattle.text.proofs.Grammar.Exact.{HasWord}
use Rattle.text.proofs.Grammar.Words.{skip_told}
use Rattle.text.proofs.Grammar.Trees.{join_assoc}
use Rattle.text.proofs.Grammar.Wrong.{GoodName, Kept, kept_join, kept_node, kept_none}

-- ---- answers ----

-- by what is said of a refusal's place, and how far the bytes are good: but for 2 the byte at the place is good too
abbrev pub Stopped : (ℕ → ℕ → Type 0) → Refusal → Type 0
Stopped S TooLong = ⊥
Stopped S (Grammar q) = S q q
Stopped S (Character q) = S q (q + 1)
Stopped S (Repeated q) = S q (q + 1)
Stopped S (Deep q) = S q (q + 1)
Stopped S (Many q) = S q (q + 1)
Stopped S (Small n) = ⊥

abbrev pub Told : (Forest → ℕ → Type 0) → (ℕ → ℕ → Type 0) → Read → Type 0
Told G S (good f to) = G f to
Told G S (bad r) = Stopped S r

-- the place of an answer
abbrev pub place_of : Read → ℕ
place_of (good f to) = to
place_of (bad TooLong) = 0
place_of (bad (Grammar q)) = q
place_of (bad (Character q)) = q
place_of (bad (Repeated q)) = q
place_of (bad (Deep q)) = q
place_of (bad (Many q)) = q
place_of (bad (Small n)) = 0

pub told_place : (P : ℕ → Type 0) (G : Forest → ℕ → Type 0) (S : ℕ → ℕ → Type 0) → ((f : Forest) (to : ℕ) → G f to → P to)
    → ((q e : ℕ) → q ≤ e → S q e → P q) → (R : Read) → Told G S R → P (place_of R)
told_place P G S g s (good f to) h = g f to h
told_place P G S g s (bad TooLong) h = absurd h
told_place P G S g s (bad (Grammar q)) h = s q q (le_refl q) h
told_place P G S g s (bad (Character q)) h = s q (q + 1) (omega arith) h
told_place P G S g s (bad (Repeated q)) h = s q (q + 1) (omega arith) h
told_place P G S g s (bad (Deep q)) h = s q (q + 1) (omega arith) h
told_place P G S g s (bad (Many q)) h = s q (q + 1) (omega arith) h
told_place P G S g s (bad (Small n)) h = absurd h

pub stopped_map : (S W : ℕ → ℕ → Type 0) → ((q e : ℕ) → S q e → W q e) → (r : Refusal) → Stopped S r → Stopped W r
stopped_map S W f TooLong h = h
stopped_map S W f (Grammar q) h = f q q h
stopped_map S W f (Character q) h = f q (q + 1) h
stopped_map S W f (Repeated q) h = f q (q + 1) h
stopped_map S W f (Deep q) h = f q (q + 1) h
stopped_map S W f (Many q) h = f q (q + 1) h
stopped_map S W f (Small n) h = h

-- ---- bytes that are put together ----

pub byte_opening : (b : Bracket) → opening b < 256
byte_opening square = omega arith
byte_opening curly = omega arith

pub byte_closing : (b : Bracket) → closing b < 256
byte_closing square = omega arith
byte_closing curly = omega arith

-- a part, white space, a byte, white space and what follows
abbrev pub glued : ℕ → List ℕ → List ℕ → List ℕ → List ℕ → List ℕ
glued c v s r w = v ++ (s ++ c ∷ (r ++ w))

pub glue : (c : ℕ) (v s r w : List ℕ) → glued c v s r [] ++ w ≡ glued c v s r w
glue c v s r w = append_assoc v (s ++ c ∷ (r ++ [])) w ∙ ap (λ (l : List ℕ). v ++ l) (append_assoc s (c ∷ (r ++ [])) w ∙ ap (λ (l : List ℕ). s ++ c ∷ l) (append_assoc r [] w))

pub glue_end : (c : ℕ) (v s r w z : List ℕ) → glued c v s r w ++ z ≡ glued c v s r (w ++ z)
glue_end c v s r w z = append_assoc v (s ++ c ∷ (r ++ w)) z ∙ ap (λ (l : List ℕ). v ++ l) (append_assoc s (c ∷ (r ++ w)) z ∙ ap (λ (l : List ℕ). s ++ c ∷ l) (append_assoc r w z))

abbrev pub null_value : Is value (110 ∷ 117 ∷ 108 ∷ 108 ∷ [])
null_value = simple nothing exactly

module _ (L : Limits) (t : List ℕ) where
  -- such a part stands from `at` to `to`, f is its tree, and its values are read
  pub record Parsed (a : Phrase) (depth : ℕ) (c : Seat) (ns ne at : ℕ) (f : Forest) (to : ℕ) : Type 0 where
    pub word : List ℕ
    pub is : Is a word
    pub stands : BytesStand t at to word
    pub trees : f ≡ tree_of is ns ne at
    pub kept : Kept L t depth c f

  -- the bytes from `at` to e begin such a part
  pub record Viable (a : Phrase) (at q e : ℕ) : Type 0 where
    pub word : List ℕ
    pub is : Is a word
    pub like : Like t e at word
    pub later : at ≤ q
    pub within : e ≤ length t

  -- items stand from `at` up to their closing byte, and f is what stands before them and then their trees
  pub record ItemsStand (b : Bracket) (depth : ℕ) (c : Seat) (at : ℕ) (f : Forest) (to : ℕ) : Type 0 where
    pub word : List ℕ
    pub is : Is (items b) word
    pub stands : BytesStand t at to (word ++ closing b ∷ [])
    pub trees : f ≡ join c.beside (tree_of is 0 0 at)
    pub kept : Kept L t depth c (tree_of is 0 0 at)

  -- the rest of a container that is opened at `at`, and the beginning of such a rest
  pub record ClosedBy (b : Bracket) (depth : ℕ) (c : Seat) (at : ℕ) (f : Forest) (to : ℕ) : Type 0 where
    pub word : List ℕ
    pub is : Is value (opening b ∷ word)
    pub stands : BytesStand t (at + 1) to word
    pub trees : (ns ne : ℕ) → node b ns ne at to f none ≡ tree_of is ns ne at
    pub kept : Kept L t depth (under c) f

  pub record Opened (b : Bracket) (at q e : ℕ) : Type 0 where
    pub word : List ℕ
    pub is : Is value (opening b ∷ word)
    pub like : Like t e (at + 1) word
    pub later : at + 1 ≤ q
    pub within : e ≤ length t

  -- a beginning that stands
  pub glued_stands : {at to c : ℕ} {v : List ℕ} → at ≤ length t → c < 256 → BytesStand t at to v → byte_at t (skip t to) ≡ c
      → (s : HasWord t Ws to (skip t to)) (r : HasWord t Ws (skip t to + 1) (skip t (skip t to + 1))) → BytesStand t at (skip t (skip t to + 1)) (glued c v s.word r.word [])
  glued_stands i h p e s r = stands_join p (stands_join s.stands (stands_join (one_stands e h) (rw append-nil r.stands)))

  -- ---- what could begin at a place ----

  module _ (at : ℕ) (i : at ≤ length t) where
    pub some_value : Viable value at at at
    some_value = record { word = _; is = null_value; like = like_none _ (le_refl at); later = le_refl at; within = i }

    -- the byte there is an opening bracket
    pub some_bracket : (b : Bracket) → byte_at t at ≡ opening b → Viable value at at (at + 1)
    some_bracket b e =
        record {
          word = opening b ∷ closing b ∷ [];
          is = empty b Star.none;
          like = Like.next (λ l. e) (like_none _ (le_refl (at + 1)));
          later = le_refl at;
          within = omega (arith, inside t at (rw e (byte_opening b)));
        }

    some_item : (b : Bracket) → Viable (item b) at at at
    some_item square = record { word = _; is = element null_value; like = like_none _ (le_refl at); later = le_refl at; within = i }
    some_item curly = record { word = _; is = member (quoted Star.none) Star.none Star.none null_value; like = like_none _ (le_refl at); later = le_refl at; within = i }

  -- ---- items ----

  module _ (b : Bracket) (depth : ℕ) where
    module _ {c : Seat} {at to : ℕ} {f : Forest} (i : at ≤ length t) (p : Parsed (item b) depth c 0 0 at f to) (k : byte_at t (skip t to) ≡ 44) where
      s : HasWord t Ws to (skip t to)
      s = skip_told t to

      r : HasWord t Ws (skip t to + 1) (skip t (skip t to + 1))
      r = skip_told t (skip t to + 1)

      g : BytesStand t at (skip t (skip t to + 1)) (glued 44 p.word s.word r.word [])
      g = glued_stands i (omega arith) p.stands k s r

      there : skip t (skip t to + 1) ≡ at + length p.word + length s.word + 1 + length r.word
      there = omega (arith, stands_to p.stands, stands_to s.stands, stands_to r.stands)

      -- the tree of the item and of the items behind the comma
      both : {w : List ℕ} (d : Is (items b) w) → join f (tree_of d 0 0 (skip t (skip t to + 1))) ≡ tree_of (comma p.is s.is r.is d) 0 0 at
      unfolding tree_of
      both d = ap₂ (λ (a : Forest) (x : ℕ). join a (tree_of d 0 0 x)) p.trees there

      after_comma : {q e : ℕ} → Viable (items b) (skip t (skip t to + 1)) q e → Viable (items b) at q e
      after_comma v =
          record {
            word = glued 44 p.word s.word r.word v.word;
            is = comma p.is s.is r.is v.is;
            like = rw (glue 44 p.word s.word r.word v.word) at (like_join g v.like);
            later = omega (arith, stands_to g, v.later);
            within = v.within;
          }

      extend : (R : Read) → Told (ItemsStand b depth (behind c f) (skip t (skip t to + 1))) (Viable (items b) (skip t (skip t to + 1))) R
          → Told (ItemsStand b depth c at) (Viable (items b) at) R
      extend (bad x) h = stopped_map (Viable (items b) (skip t (skip t to + 1))) (Viable (items b) at) (λ q e. after_comma) x h
      extend (good y x) h =
          record {
            word = glued 44 p.word s.word r.word h.word;
            is = comma p.is s.is r.is h.is;
            stands = rw (glue_end 44 p.word s.word r.word h.word (closing b ∷ []))
                (rw (glue 44 p.word s.word r.word (h.word ++ closing b ∷ [])) at (stands_join g h.stands));
            trees = h.trees ∙ join_assoc c.beside f _ ∙ ap (join c.beside) (both h.is);
            kept = subst (Kept L t depth c) (both h.is) (kept_join L t f _ p.kept h.kept);
          }

    after_told : (c : Seat) (at : ℕ) (more : Forest → ℕ → Read) → at ≤ length t
        → ((f : Forest) (to : ℕ) → to ≤ length t → Told (ItemsStand b depth (behind c f) to) (Viable (items b) to) (more f to))
        → (R : Read) → Told (Parsed (item b) depth c 0 0 at) (Viable (item b) at) R → Told (ItemsStand b depth c at) (Viable (items b) at) (after_item t (closing b) c.beside more R)
    unfolding after_item tree_of
    after_told c at more i m (bad r) h =
        stopped_map (Viable (item b) at) (Viable (items b) at) (λ q e v. record { word = v.word ++ []; is = one v.is Star.none; like = like_more [] v.like; later = v.later; within = v.within }) r h
    after_told c at more i m (good f to) p =
        let s = skip_told t to in
        let l = stands_join p.stands s.stands in
        let P = Told (ItemsStand b depth c at) (Viable (items b) at) in
        if_equal P (byte_at t (skip t to)) (closing b)
        (λ e. record {
          word = p.word ++ s.word;
          is = one p.is s.is;
          stands = stands_join l (one_stands e (byte_closing b));
          trees = ap (join c.beside) p.trees;
          kept = subst (Kept L t depth c) p.trees p.kept;
        })
        (λ e. if_equal P (byte_at t (skip t to)) 44
        (λ k. extend i p k (more f (skip t (skip t to + 1))) (m f (skip t (skip t to + 1)) (stands_inside (g i p k) i)))
        (λ k. record { word = p.word ++ s.word; is = one p.is s.is; like = like_stands l; later = omega (arith, stands_to l); within = stands_inside l i }))

    module _ (read : ItemReader)
        (told : (c : Seat) (at : ℕ) → at ≤ length t → Told (Parsed (item b) depth c 0 0 at) (Viable (item b) at) (read c.beside at c.after)) where
      pub items_told : (turns : ℕ) (c : Seat) (at : ℕ) → at ≤ length t
          → Told (ItemsStand b depth c at) (Viable (items b) at) (items_from t read (closing b) turns at c.after c.beside)
      unfolding items_from tree_of
      items_told zero c at i =
          let v = some_item at i b in
          record { word = v.word ++ []; is = one v.is Star.none; like = like_more [] v.like; later = v.later; within = v.within }
      items_told (suc turns) c at i =
          after_told c at _ i (λ f to l. items_told turns (behind c f) to l) (read c.beside at c.after) (told c at i)

      -- ---- containers ----

      module _ (c : Seat) (at : ℕ) (s : HasWord t Ws (at + 1) (skip t (at + 1))) where
        tree_full : {ns ne to : ℕ} {f : Forest} (h : ItemsStand b depth (under c) (skip t (at + 1)) f to) → node b ns ne at to f none ≡ tree_of (full b s.is h.is) ns ne at
        unfolding tree_of join
        tree_full {ns} {ne} {to} h =
            let x : skip t (at + 1) ≡ at + 1 + length s.word = stands_to s.stands in
            let e : to ≡ at + length s.word + length h.word + 2 = omega (arith, stands_to h.stands, length-append h.word (closing b ∷ [])) in
            rw (e, h.trees, x)

        opened : {q e : ℕ} → Viable (items b) (skip t (at + 1)) q e → Opened b at q e
        opened v =
            record {
              word = s.word ++ (v.word ++ closing b ∷ []);
              is = full b s.is v.is;
              like = like_join s.stands (like_more _ v.like);
              later = omega (arith, stands_to s.stands, v.later);
              within = v.within;
            }

        rest_told : (R : Read) → Told (ItemsStand b depth (under c) (skip t (at + 1))) (Viable (items b) (skip t (at + 1))) R → Told (ClosedBy b depth c at) (Opened b at) R
        unfolding join
        rest_told (bad r) h = stopped_map (Viable (items b) (skip t (at + 1))) (Opened b at) (λ q e. opened) r h
        rest_told (good f to) h =
            record {
              word = s.word ++ (h.word ++ closing b ∷ []);
              is = full b s.is h.is;
              stands = stands_join s.stands h.stands;
              trees = λ ns ne. tree_full h;
              kept = subst (Kept L t depth (under c)) (sym h.trees) h.kept;
            }

      pub inside_told : (c : Seat) (at : ℕ) → c.after < L.values → at + 1 ≤ length t
          → Told (ClosedBy b depth c at) (Opened b at) (inside_of t read (closing b) (at + 1) (c.after + 1))
      unfolding inside_of tree_of
      inside_told c at few i =
          let s = skip_told t (at + 1) in
          let j = stands_inside s.stands i in
          let two : skip t (at + 1) + 1 ≡ at + length s.word + 2 = omega (arith, stands_to s.stands) in
          if_equal (Told (ClosedBy b depth c at) (Opened b at)) (byte_at t (skip t (at + 1))) (closing b)
          (λ e. record {
            word = s.word ++ closing b ∷ [];
            is = empty b s.is;
            stands = stands_join s.stands (one_stands e (byte_closing b));
            trees = λ ns ne. rw two;
            kept = kept_none L t (omega arith);
          })
          (λ e. rest_told c at s (items_from t read (closing b) (suc (length t)) (skip t (at + 1)) (c.after + 1) none) (items_told (suc (length t)) (under c) (skip t (at + 1)) j))

      pub container_told : (c : Seat) (ns ne at : ℕ) → GoodName L t c.beside ns ne → byte_at t at ≡ opening b → at ≤ length t
          → Told (Parsed value (suc depth) c ns ne at) (Viable value at) (container L b (inside_of t read (closing b)) ns ne at c.after)
      unfolding container close_of
      container_told c ns ne at named e i =
          if_most (Told (Parsed value (suc depth) c ns ne at) (Viable value at)) L.values c.after
          (λ m. some_bracket at i b e)
          (λ m. go m (inside_of t read (closing b) (at + 1) (c.after + 1)) (inside_told c at m (omega (arith, inside t at (rw e (byte_opening b))))))
        where
          go : c.after < L.values → (R : Read) → Told (ClosedBy b depth c at) (Opened b at) R → Told (Parsed value (suc depth) c ns ne at) (Viable value at) (close_of b ns ne at R)
          go m (bad r) h =
              stopped_map (Opened b at) (Viable value at) (λ q x v. record { word = opening b ∷ v.word; is = v.is; like = Like.next (λ l. e) v.like; later = omega (arith, v.later); within = v.within }) r h
          go m (good f to) h =
              record {
                word = opening b ∷ h.word;
                is = h.is;
                stands = stands_join (one_stands e (byte_opening b)) h.stands;
                trees = h.trees ns ne;
                kept = kept_node L t b named m h.kept;
              }
