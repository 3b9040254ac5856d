-- Whole texts: the value between the white space of a text, as it is read and as it is derived.
--     self, other      a derivation of the text itself, or of one that begins as it does, is met by what is read
--     self-calm, other-calm     nothing wrong in such a text is passed over
--     viable-begins, read-begins, read-text     what is read derives
-- Assumes nothing.
use mathlib.Core.Path.{◌≡◌, refl, ap, subst, ◌∙◌}
use mathlib.Core.List.{List, [], ◌∷◌, ◌++◌, append_assoc}
use mathlib.Core.Logic.{◌⊎◌, ⊎_elim}
use Prim.Native.Nat.{ℕ, ◌+◌, ◌≤◌, ◌<◌}
use native.Mathlib.Omega.{arith}
use native.Mathlib.Nat.{zero-add}
use lib.ListN.{length, take, length-append}
use Rattle.text.specs.Limits.{Limits}
use Rattle.text.specs.Tokens.{skip}
use Rattle.text.specs.Tree.{Forest, none}
use Rattle.text.specs.Reader.{Read, value_at}
use Rattle.text.specs.Abnf.{Star}
use Rattle.text.specs.Grammar.{Ws, value, JsonText, json_text, tree_of, root_of}
use Rattle.text.specs.Seats.{top}
use Rattle.text.specs.Fault.{Begins}
use Rattle.text.proofs.Grammar.Stands.{BytesStand, Like, stands_join, stands_to, stands_inside, like_stands, like_join, like_more, like_skip}
use Rattle.text.proofs.Grammar.Exact.{HasWord, PastPlace}
use Rattle.text.proofs.Grammar.Words.{ended, skip_told, skip_follow, skip_inside}
use Rattle.text.proofs.Grammar.Sound.{Told, place_of, Parsed, Viable}
use Rattle.text.proofs.Grammar.Told.{no_name, value_told}
use Rattle.text.proofs.Grammar.Within.{value_later, value_within}
use Rattle.text.proofs.Grammar.Meets.{MeetsNew, past, NearAnswer, near, space_behind, first}
use Rattle.text.proofs.Grammar.Follow.{follow}
use Rattle.text.proofs.Grammar.Low.{from_whence, low}
use Rattle.text.proofs.Grammar.Calm.{Calm, no_names, calm}
use Rattle.text.proofs.Grammar.Prefixes.{stands_whole, like_first, like_take, like_whole}

-- what is read after the white space at the start of a text
abbrev pub root : Limits → List ℕ → Read
root L t = value_at L t L.depth 0 0 (skip t 0) 0

module _ (L : Limits) (t : List ℕ) where
  start : skip t 0 ≤ length t
  start = skip_inside t 0 (omega arith)

  pub root_told : Told (Parsed L t value L.depth top 0 0 (skip t 0)) (Viable L t value (skip t 0)) (root L t)
  root_told = value_told L t L.depth top 0 0 (skip t 0) (no_name L t none) start

  pub root_within : place_of (root L t) ≤ length t
  root_within = value_within L t L.depth 0 0 (skip t 0) 0 start

  -- ---- derived texts are met ----

  -- a text of the grammar that this one is like as far as q: its value is met, and the white space after it ends the text
  record Followed (q : ℕ) (w : List ℕ) (f : Forest) : Type 0 where
    end : ℕ
    meets : MeetsNew L t q top f end (root L t)
    ends : end ≤ length t → (skip t end ≡ length w) ⊎ PastPlace q (length w) (skip t end)

  text_follow : (q : ℕ) {w : List ℕ} (d : JsonText w) → Like t q 0 (w ++ 256 ∷ []) → Followed q w (root_of d)
  unfolding root_of
  text_follow q (json_text {s} {w} {r} p d o) h =
      let l : Like t q 0 (s ++ (w ++ (r ++ 256 ∷ []))) = rw (append_assoc s (w ++ r) (256 ∷ []), append_assoc w r (256 ∷ [])) at h in
      let dark = (first d (r ++ 256 ∷ [])).dark in
      let ls : Like t q (length s) (w ++ (r ++ 256 ∷ [])) = rw zero-add at (like_skip s l) in
      let n : length (s ++ (w ++ r)) ≡ length s + length w + length r = omega (arith, length-append s (w ++ r), length-append w r) in
      record {
        end = length s + length w;
        meets = ⊎_elim
            (λ (u : skip t 0 ≡ 0 + length s).
            let v : skip t 0 ≡ length s = omega arith in
            rw v (follow L t q d (r ++ 256 ∷ []) (space_behind (256 ∷ []) o ended) L.depth top 0 0 (length s) (zero-add L.depth) (omega arith) (omega (arith, start)) ls))
            (λ (u : PastPlace q (0 + length s) (skip t 0)). past (omega (arith, u.word)) (omega (arith, u.answer, value_later L t L.depth 0 0 (skip t 0) 0 start)))
            (skip_follow t (w ++ (r ++ 256 ∷ [])) (omega arith) p dark l);
        ends = λ j. rw n (skip_follow t (256 ∷ []) j o refl (like_skip w ls));
      }

  module _ (R : Read) (e : R ≡ root L t) where
    -- a text, followed as far as it is met
    pub record Met (w : List ℕ) (f : Forest) (q : ℕ) : Type 0 where
      pub end : ℕ
      pub is : NearAnswer L t q top f end R
      pub ends : end ≤ length t → (skip t end ≡ length w) ⊎ PastPlace q (length w) (skip t end)

    -- the text itself, if it is one of the grammar
    pub self : (d : JsonText t) → Met t (root_of d) (length t + 1)
    self d =
        let m = text_follow (length t + 1) d like_whole in
        record { end = m.end; is = rw e (near L t (length t + 1) m.meets (omega (arith, root_within))); ends = m.ends }

    -- a text of the grammar that begins as the text does, the byte at p too
    pub other : (p : ℕ) → place_of R ≤ p → p < length t → (u : List ℕ) (d : JsonText (take (p + 1) t ++ u)) → Met (take (p + 1) t ++ u) (root_of d) (p + 1)
    other p k l u d =
        let m = text_follow (p + 1) d (like_take p u (256 ∷ []) l) in
        record { end = m.end; is = near L t (p + 1) (rw (← e) at m.meets) (omega arith); ends = m.ends }

  -- ---- nothing wrong in them is passed over ----

  text_calm : (q : ℕ) {w : List ℕ} (d : JsonText w) → Like t q 0 (w ++ 256 ∷ []) → Calm L t q top (root_of d) (root L t)
  unfolding root_of
  text_calm q (json_text {s} {w} {r} p d o) h =
      let l : Like t q 0 (s ++ (w ++ (r ++ 256 ∷ []))) = rw (append_assoc s (w ++ r) (256 ∷ []), append_assoc w r (256 ∷ [])) at h in
      let ls : Like t q (length s) (w ++ (r ++ 256 ∷ [])) = rw zero-add at (like_skip s l) in
      ⊎_elim
      (λ (u : skip t 0 ≡ 0 + length s).
      let v : skip t 0 ≡ length s = omega arith in
      rw v (calm L t q d (r ++ 256 ∷ []) (space_behind (256 ∷ []) o ended) L.depth top 0 0 (length s) (zero-add L.depth) (omega arith) (omega (arith, start)) ls (no_names L t q none)))
      (λ (u : PastPlace q (0 + length s) (skip t 0)). record { least = λ c y m x i e lt. absurd (omega (arith, u.word, from_whence L t (length s) (low L t d top c y m x 0 0 (length s) i e))) })
      (skip_follow t (w ++ (r ++ 256 ∷ [])) (omega arith) p (first d (r ++ 256 ∷ [])).dark l)

  -- the text itself, if it is one of the grammar
  pub self_calm : (d : JsonText t) → Calm L t (length t + 1) top (root_of d) (root L t)
  self_calm d = text_calm (length t + 1) d like_whole

  -- a text of the grammar that begins as the text does, the byte at p too, has nothing wrong up to there that comes before the answer
  pub other_calm : (p : ℕ) → p < length t → (u : List ℕ) (d : JsonText (take (p + 1) t ++ u)) → Calm L t (p + 1) top (root_of d) (root L t)
  other_calm p l u d = text_calm (p + 1) d (like_take p u (256 ∷ []) l)

  -- ---- what is read derives ----

  begun_text : {p : ℕ} {w : List ℕ} → JsonText w → Like t p 0 w → p ≤ length t → Begins t p
  begun_text d l i = let u = like_first l i in record { rest = u.0; is = rw u.1 at d }

  pub viable_begins : {q e : ℕ} → Viable L t value (skip t 0) q e → Begins t e
  viable_begins v =
      let s = skip_told t 0 in
      begun_text (json_text s.is v.is Star.none) (like_join s.stands (like_more [] v.like)) v.within

  -- derivations of a list, and so of an equal one
  abbrev Derived : Forest → List ℕ → Type 0
  Derived f l = (d : JsonText l) × (f ≡ root_of d)

  -- a value that is read, with the white space around it
  module _ {f : Forest} {to : ℕ} (p : Parsed L t value L.depth top 0 0 (skip t 0) f to) where
    s : HasWord t Ws 0 (skip t 0)
    s = skip_told t 0

    r : HasWord t Ws to (skip t to)
    r = skip_told t to

    pub value_inside : to ≤ length t
    value_inside = stands_inside p.stands start

    all : BytesStand t 0 (skip t to) (s.word ++ (p.word ++ r.word))
    all = stands_join s.stands (stands_join p.stands r.stands)

    derived : Derived f (s.word ++ (p.word ++ r.word))
    unfolding root_of
    derived = (json_text s.is p.is r.is, (let x : skip t 0 ≡ length s.word = omega (arith, stands_to s.stands) in p.trees ∙ ap (λ (a : ℕ). tree_of p.is 0 0 a) x))

    pub read_inside : skip t to ≤ length t
    read_inside = stands_inside all (omega arith)

    pub read_begins : Begins t (skip t to)
    read_begins = begun_text derived.0 (like_stands all) read_inside

    pub read_text : skip t to ≡ length t → (d : JsonText t) × (f ≡ root_of d)
    read_text o = subst (Derived f) (stands_whole (rw o at all)) derived
