-- What whole reading of a text has still to do from a place on, by the state of the automaton there: `resume`. One byte further it is the same as from the
-- state that the byte leads to (`step`); at the end of the text, where the byte is 256, too. No invariant of states is asked.
-- Assumes nothing.
use Rattle.std.specs.Prelude.{Option, Some, None, Result, Ok, Err}
use Rattle.text.specs.declared.Fault.{Fault}
use Rattle.text.specs.declared.Fault.TheVariants.{Malformed, Forbidden}
use Rattle.wire.specs.declared.Inner.{Inner}
use Rattle.text.specs.declared.Refusal.{Refusal}
use mathlib.Core.Path.{◌≡◌, refl, sym, ap, ◌∙◌}
use mathlib.Core.List.{List, [], ◌∷◌}
use mathlib.Core.Bool.{Bool, true, false, cond}
use Prim.Native.Nat.{ℕ, suc, ◌+◌, ◌-◌, ◌≤◌, ◌<◌}
use native.Mathlib.Omega.{arith}
use lib.ListN.{length}
use lib.Dec.{leb, eqb}
use borrow.Author.Tests.{eqb-true, eqb-false, leb-true, leb-false, eq-eqb}
use Rattle.laws.proofs.Places.{inside}
use Rattle.text.specs.Limits.{Limits}
use Rattle.text.specs.Text.{byte_at, bytes}
use Rattle.text.specs.Strings.{string_end}
use Rattle.text.specs.Tokens.{is_space, is_digit, skip, word_at, kind_by, token_at}
use Rattle.text.specs.Grammar.{closing}
use Rattle.text.specs.Tree.{Bracket, square, curly}
use Rattle.text.specs.declared.Refusal.TheVariants.{Grammar, Deep, Many}
use Rattle.text.proofs.TokenEnds.{run_on_lem, run_end_lem}
use Rattle.text.proofs.TokenBytes.{by_kind}
use Rattle.text.proofs.Grammar.Words.{skip_inside}
use Rattle.wire.specs.declared.Turn.{Turn}
use Rattle.wire.specs.declared.Turn.TheVariants.{Goes, Ends, Stuck}
use Rattle.wire.specs.Figures.{turn_of}
use Rattle.wire.specs.Inners.{move_of}
use Rattle.wire.specs.declared.Inner.TheVariants.{Plain}
use Rattle.wire.specs.Machine.{Spot, value, first, name, colon, after, word, number, string, key, State, going, over, refuse, counted, opens, spot_of, begins, quotes, items, firsts, behind_comma, closes, spaced, after_of, word_on, on_turn, on_move, feed}
use Rattle.wire.proofs.Numbers.{number_rest, turned, number_step, number_start}
use Rattle.wire.proofs.Strings.{string_rest, moved, string_step}
use Rattle.wire.proofs.Counting.{Went, on, halt, bind, token_c, value_c, colon_c, name_c, item_c, items_c, rest_c, inside_c, box_c, scalar_c, items_law, value_law}

-- a part, and then the rest of the text
abbrev pub finally : (ℕ → ℕ → Result ℕ Refusal) → Went → Result ℕ Refusal
finally k (on to n) = k to n
finally k (halt r) = Err r

finally_bind : (k : ℕ → ℕ → Result ℕ Refusal) (g : ℕ → ℕ → Went) (w : Went) → finally k (bind g w) ≡ finally (λ to n. finally k (g to n)) w
finally_bind k g (on to n) = refl
finally_bind k g (halt r) = refl

finally_cond : (k : ℕ → ℕ → Result ℕ Refusal) (x : Bool) (a b : Went) {c d : (Result ℕ Refusal)} → finally k a ≡ c → finally k b ≡ d → finally k (cond x a b) ≡ cond x c d
finally_cond k true a b p q = p
finally_cond k false a b p q = q

module _ (L : Limits) (t : List ℕ) where
  -- how many containers may still be opened
  abbrev pub left : List Bracket → ℕ
  left os = L.depth - length os

  -- after a value with these brackets open
  unfoldable pub rest_of : List Bracket → (to n : ℕ) → Result ℕ Refusal
  rest_of [] to n = cond (eqb (byte_at t (skip t to)) 256) (Ok n) (Err (Grammar (skip t to)))
  rest_of (b ∷ os) to n = finally (rest_of os) (rest_c L t (left (b ∷ os)) b to n)

  -- by the state at a place
  unfoldable pub spotted : (i n : ℕ) → List Bracket → Spot → Result ℕ Refusal
  spotted i n os value = finally (rest_of os) (value_c L t (left os) (skip t i) n)
  spotted i n [] first = Err (Grammar (skip t i))
  spotted i n (b ∷ os) first = finally (rest_of os) (inside_c L t (left (b ∷ os)) b i n)
  spotted i n os name = finally (rest_of os) (item_c L t (left os) curly (skip t i) n)
  spotted i n os colon = finally (rest_of os) (colon_c L t (left os) i n)
  spotted i n os after = rest_of os i n
  spotted i n os (word c bs) = finally (rest_of os) (token_c n (word_at t (c ∷ bs) i))
  spotted i n os (number f) = finally (rest_of os) (token_c n (number_rest t f i))
  spotted i n os (string s) = finally (rest_of os) (token_c n (string_rest t s i))
  spotted i n os (key s) = finally (rest_of os) (name_c L t (left os) n (string_rest t s i))

  -- what whole reading answers, if its part that is left is the one of a state
  unfoldable pub resume : State → Result ℕ Refusal
  resume (going i n os spot) = spotted i n os spot
  resume (over a) = a

  resume_cond : (x : Bool) (a b : State) {c d : (Result ℕ Refusal)} → c ≡ resume a → d ≡ resume b → cond x c d ≡ resume (cond x a b)
  resume_cond true a b p q = p
  resume_cond false a b p q = q

  -- where white space may stand
  spaces : (i : ℕ) (f : ℕ → Result ℕ Refusal) (s other : State) → f (skip t (i + 1)) ≡ resume s → f i ≡ resume other → f (skip t i) ≡ resume (spaced (byte_at t i) s other)
  spaces i f s other p q = go (is_space (byte_at t i)) refl
    where
      go : (x : Bool) → is_space (byte_at t i) ≡ x → f (skip t i) ≡ resume (cond x s other)
      go true e = rw (run_on_lem is_space t refl i e) p
      go false e = rw (run_end_lem is_space t refl i e) q

  module _ (free : L.unique ≡ false) where
    -- ---- a value begins

    open_step : (c : Bracket) (i n : ℕ) (os : List Bracket) → finally (rest_of os) (box_c L t (left os) c i n) ≡ resume (opens L c i n os)
    unfolding opens counted box_c resume spotted
    open_step c i n os = go (leb L.depth (length os)) refl
      where
        inner : State
        inner = going (i + 1) (n + 1) (c ∷ os) first

        go : (x : Bool) → leb L.depth (length os) ≡ x → finally (rest_of os) (box_c L t (left os) c i n) ≡ resume (cond x (refuse (Deep i)) (counted L i n inner))
        go true e =
            let h = leb-true L.depth (length os) e in
            let z : left os ≡ 0 = omega arith in
            rw z
        go false e =
            let h = leb-false L.depth (length os) e in
            let z : left os ≡ suc (left (c ∷ os)) = omega arith in
            rw z (finally_cond (rest_of os) (leb L.values n) (halt (Many i)) (inside_c L t (left (c ∷ os)) c (i + 1) (n + 1)) refl refl ∙ resume_cond (leb L.values n) (refuse (Many i)) inner refl refl)

    -- a literal, after its first byte
    word_begun : (c : ℕ) (bs : List ℕ) (i : ℕ) → byte_at t i ≡ c → word_at t (c ∷ bs) i ≡ word_at t bs (i + 1)
    unfolding word_at
    word_begun c bs i e = rw (eq-eqb (byte_at t i) c e)

    token_begun : (kind i n : ℕ) (os : List Bracket) → kind_by (byte_at t i) ≡ kind → 0 < kind → (kind ≡ 6 → ⊥) → (kind ≡ 7 → ⊥)
        → finally (rest_of os) (token_c n (token_at t kind i)) ≡ spotted (i + 1) n os (spot_of kind (byte_at t i))
    unfolding token_at spot_of spotted string_rest
    token_begun kind i n os e pos n6 n7 =
        by_kind (byte_at t i) kind e
        (λ b k. rw (← k) (ap (λ (w : Result ℕ (Fault ℕ)). finally (rest_of os) (token_c n w)) (word_begun 110 (bytes "ull") i b)))
        (λ b k. rw (← k) (ap (λ (w : Result ℕ (Fault ℕ)). finally (rest_of os) (token_c n w)) (word_begun 102 (bytes "alse") i b)))
        (λ b k. rw (← k) (ap (λ (w : Result ℕ (Fault ℕ)). finally (rest_of os) (token_c n w)) (word_begun 116 (bytes "rue") i b)))
        (λ b k. numeral k (rw b))
        (λ b k. rw (← k))
        (λ b k. absurd (n6 (sym k)))
        (λ b k. absurd (n7 (sym k)))
        (λ b k. numeral k (rw b))
        (λ k. absurd (omega arith))
      where
        numeral : 4 ≡ kind → cond (is_digit (byte_at t i)) true (eqb (byte_at t i) 45) ≡ true
            → finally (rest_of os) (token_c n (token_at t kind i)) ≡ spotted (i + 1) n os (spot_of kind (byte_at t i))
        numeral k h = rw (← k) (ap (λ (w : Result ℕ (Fault ℕ)). finally (rest_of os) (token_c n w)) (number_start t i h))

    begin_step : (i n : ℕ) (os : List Bracket) → finally (rest_of os) (value_c L t (left os) i n) ≡ resume (begins L i n os (byte_at t i))
    unfolding begins counted scalar_c resume
    begin_step i n os =
        ap (finally (rest_of os)) (value_law L t free (left os) i n) ∙ go (eqb kind 0) (eqb kind 6) (eqb kind 7) refl refl refl
      where
        kind : ℕ
        kind = kind_by (byte_at t i)

        simple : State
        simple = going (i + 1) (n + 1) os (spot_of kind (byte_at t i))

        go : (x y z : Bool) → eqb kind 0 ≡ x → eqb kind 6 ≡ y → eqb kind 7 ≡ z
            → finally (rest_of os) (cond x (halt (Grammar i)) (cond y (box_c L t (left os) square i n) (cond z (box_c L t (left os) curly i n) (scalar_c L t kind i n))))
            ≡ resume (cond x (refuse (Grammar i)) (cond y (opens L square i n os) (cond z (opens L curly i n os) (counted L i n simple))))
        go true y z e f g = refl
        go false true z e f g = open_step square i n os
        go false false true e f g = open_step curly i n os
        go false false false e f g =
            finally_cond (rest_of os) (leb L.values n) (halt (Many i)) (token_c (n + 1) (token_at t kind i)) refl
            (token_begun kind i (n + 1) os refl (omega (arith, eqb-false kind 0 e)) (eqb-false kind 6 f) (eqb-false kind 7 g))
            ∙ resume_cond (leb L.values n) (refuse (Many i)) simple refl refl

    -- ---- between tokens

    quote_step : (i n : ℕ) (os : List Bracket) → finally (rest_of os) (item_c L t (left os) curly i n) ≡ resume (quotes i n os (byte_at t i))
    unfolding item_c quotes resume spotted string_rest
    quote_step i n os =
        finally_cond (rest_of os) (eqb (byte_at t i) 34) (name_c L t (left os) n (string_end t (i + 1))) (halt (Grammar i)) refl refl
        ∙ resume_cond (eqb (byte_at t i) 34) (going (i + 1) n os (key Plain)) (refuse (Grammar i)) refl refl

    item_step : (b : Bracket) (i n : ℕ) (os : List Bracket) → finally (rest_of os) (item_c L t (left os) b i n) ≡ resume (items L b i n os (byte_at t i))
    unfolding items item_c
    item_step square i n os = begin_step i n os
    item_step curly i n os = quote_step i n os

    -- items inside a container, and then the rest
    items_rest : (b : Bracket) (i n : ℕ) (os : List Bracket) → i ≤ length t
        → finally (rest_of os) (items_c L t (left (b ∷ os)) b i n) ≡ finally (rest_of (b ∷ os)) (item_c L t (left (b ∷ os)) b i n)
    unfolding rest_of
    items_rest b i n os h =
        ap (finally (rest_of os)) (items_law L t free (left (b ∷ os)) b i n h)
        ∙ finally_bind (rest_of os) (rest_c L t (left (b ∷ os)) b) (item_c L t (left (b ∷ os)) b i n)

    first_step : (i n : ℕ) (os : List Bracket) → i ≤ length t → spotted i n os first ≡ resume (feed L (going i n os first) (byte_at t i))
    unfolding spotted feed firsts resume inside_c
    first_step i n [] h = spaces i (λ x. Err (Grammar x)) (going (i + 1) n [] first) (firsts L i n [] (byte_at t i)) refl refl
    first_step i n (b ∷ os) h =
        spaces i (λ x. finally (rest_of os) (cond (eqb (byte_at t x) (closing b)) (on (x + 1) n) (items_c L t (left (b ∷ os)) b x n)))
        (going (i + 1) n (b ∷ os) first) (firsts L i n (b ∷ os) (byte_at t i)) refl
        (finally_cond (rest_of os) (eqb (byte_at t i) (closing b)) (on (i + 1) n) (items_c L t (left (b ∷ os)) b i n) refl (items_rest b i n os h ∙ item_step b i n (b ∷ os))
        ∙ resume_cond (eqb (byte_at t i) (closing b)) (going (i + 1) n os after) (items L b i n (b ∷ os) (byte_at t i)) refl refl)

    after_comma : (b : Bracket) (i n : ℕ) (os : List Bracket) → i < length t
        → finally (rest_of os) (items_c L t (left (b ∷ os)) b (skip t (i + 1)) n) ≡ spotted (i + 1) n (b ∷ os) (behind_comma b)
    unfolding spotted item_c
    after_comma b i n os h = items_rest b (skip t (i + 1)) n os (skip_inside t (i + 1) (omega arith)) ∙ go b
      where
        go : (c : Bracket) → finally (rest_of (b ∷ os)) (item_c L t (left (b ∷ os)) c (skip t (i + 1)) n) ≡ spotted (i + 1) n (b ∷ os) (behind_comma c)
        go square = refl
        go curly = refl

    after_step : (i n : ℕ) (os : List Bracket) → rest_of os i n ≡ resume (after_of i n os (byte_at t i))
    unfolding rest_of after_of closes resume spotted rest_c
    after_step i n [] =
        spaces i (λ x. cond (eqb (byte_at t x) 256) (Ok n) (Err (Grammar x))) (going (i + 1) n [] after) (closes i n [] (byte_at t i)) refl
        (resume_cond (eqb (byte_at t i) 256) (over (Ok n)) (refuse (Grammar i)) refl refl)
    after_step i n (b ∷ os) =
        spaces i
        (λ x. finally (rest_of os) (cond (eqb (byte_at t x) (closing b)) (on (x + 1) n) (cond (eqb (byte_at t x) 44) (items_c L t (left (b ∷ os)) b (skip t (x + 1)) n) (halt (Grammar x)))))
        (going (i + 1) n (b ∷ os) after) (closes i n (b ∷ os) (byte_at t i)) refl
        (finally_cond (rest_of os) (eqb (byte_at t i) (closing b)) (on (i + 1) n) (cond (eqb (byte_at t i) 44) (items_c L t (left (b ∷ os)) b (skip t (i + 1)) n) (halt (Grammar i))) refl
        (go (eqb (byte_at t i) 44) refl)
        ∙ resume_cond (eqb (byte_at t i) (closing b)) (going (i + 1) n os after) behind refl refl)
      where
        behind : State
        behind = cond (eqb (byte_at t i) 44) (going (i + 1) n (b ∷ os) (behind_comma b)) (refuse (Grammar i))

        go : (x : Bool) → eqb (byte_at t i) 44 ≡ x → finally (rest_of os) (cond x (items_c L t (left (b ∷ os)) b (skip t (i + 1)) n) (halt (Grammar i)))
            ≡ resume (cond x (going (i + 1) n (b ∷ os) (behind_comma b)) (refuse (Grammar i)))
        go true e = after_comma b i n os (inside t i (omega (arith, eqb-true (byte_at t i) 44 e)))
        go false e = refl

    -- ---- one byte further

    pub step : (i n : ℕ) (os : List Bracket) (spot : Spot) → i ≤ length t → resume (going i n os spot) ≡ resume (feed L (going i n os spot) (byte_at t i))
    unfolding resume spotted feed colon_c word_on on_turn on_move word_at
    step i n os value h =
        spaces i (λ x. finally (rest_of os) (value_c L t (left os) x n)) (going (i + 1) n os value) (begins L i n os (byte_at t i)) refl (begin_step i n os)
    step i n os first h = first_step i n os h
    step i n os name h =
        spaces i (λ x. finally (rest_of os) (item_c L t (left os) curly x n)) (going (i + 1) n os name) (quotes i n os (byte_at t i)) refl (quote_step i n os)
    step i n os colon h =
        let other : State = cond (eqb (byte_at t i) 58) (going (i + 1) n os value) (refuse (Grammar i)) in
        spaces i (λ x. finally (rest_of os) (cond (eqb (byte_at t x) 58) (value_c L t (left os) (skip t (x + 1)) n) (halt (Grammar x)))) (going (i + 1) n os colon) other refl
        (finally_cond (rest_of os) (eqb (byte_at t i) 58) (value_c L t (left os) (skip t (i + 1)) n) (halt (Grammar i)) refl refl
        ∙ resume_cond (eqb (byte_at t i) 58) (going (i + 1) n os value) (refuse (Grammar i)) refl refl)
    step i n os after h = after_step i n os
    step i n os (word c bs) h = go (eqb (byte_at t i) c) bs
      where
        go : (x : Bool) (cs : List ℕ) → finally (rest_of os) (token_c n (cond x (word_at t cs (i + 1)) (Err (Malformed i)))) ≡ resume (cond x (word_on (i + 1) n os cs) (refuse (Grammar i)))
        go false cs = refl
        go true [] = refl
        go true (d ∷ cs) = refl
    step i n os (number f) h = ap (λ (w : Result ℕ (Fault ℕ)). finally (rest_of os) (token_c n w)) (number_step t i f) ∙ go (turn_of f (byte_at t i))
      where
        go : (x : Turn) → finally (rest_of os) (token_c n (turned t i x)) ≡ resume (on_turn i n os (byte_at t i) x)
        go (Goes g) = refl
        go Ends = after_step i n os
        go Stuck = refl
    step i n os (string s) h = ap (λ (w : Result ℕ (Fault ℕ)). finally (rest_of os) (token_c n w)) (string_step t i s) ∙ go (move_of i s (byte_at t i))
      where
        go : (m : Result (Option Inner) (Fault ℕ)) → finally (rest_of os) (token_c n (moved t i m)) ≡ resume (on_move i n os (λ x. string x) after m)
        go (Ok (Some r)) = refl
        go (Ok None) = refl
        go (Err (Malformed p)) = refl
        go (Err (Forbidden p)) = refl
    step i n os (key s) h = ap (λ (w : Result ℕ (Fault ℕ)). finally (rest_of os) (name_c L t (left os) n w)) (string_step t i s) ∙ go (move_of i s (byte_at t i))
      where
        go : (m : Result (Option Inner) (Fault ℕ)) → finally (rest_of os) (name_c L t (left os) n (moved t i m)) ≡ resume (on_move i n os (λ x. key x) colon m)
        go (Ok (Some r)) = refl
        go (Ok None) = refl
        go (Err (Malformed p)) = refl
        go (Err (Forbidden p)) = refl
