-- What derives from the grammar is read (`follow`): where a text is like a derived part as far as a place q, the answer is as `Meets` says. By
-- induction on the derivation. So with q past the end of the text the grammar's texts are accepted but for what is wrong with their values, and with q
-- just behind a refusal's place no text of the grammar goes on as the text does, but for those in which that is wrong. Assumes nothing.
use Rattle.std.specs.Prelude.{Result, Ok, Err}
use Rattle.text.specs.declared.Fault.{Fault}
use Rattle.text.specs.declared.Fault.TheVariants.{Malformed, Forbidden}
use mathlib.Core.Path.{◌≡◌, refl, sym, subst, ◌∙◌}
use mathlib.Core.List.{List, [], ◌∷◌, ◌++◌, append_assoc}
use mathlib.Core.Bool.{false}
use mathlib.Core.Logic.{◌⊎◌, inl, inr, ⊎_elim}
use Prim.Native.Nat.{ℕ, zero, suc, ◌+◌, ◌-◌, ◌≤◌, ◌<◌}
use native.Mathlib.Omega.{arith}
use lib.ListN.{length, length-append}
use Rattle.laws.proofs.Branches.{if_equal, if_most, if_true}
use Rattle.laws.proofs.Places.{inside}
use Rattle.text.specs.Limits.{Limits}
use Rattle.text.specs.Text.{byte_at}
use Rattle.text.specs.Strings.{name_of}
use Rattle.text.specs.Tokens.{is_space, skip, kind_by}
use Rattle.text.specs.Tree.{Bracket, square, curly, Forest, none, leaf, node, size, join}
use Rattle.text.specs.Reader.{Read, good, bad, Reader, scalar_with, scalar_at, container, deep, value_with, after_item, items_from, inside_of, named, colon_at, member_with, value_at}
use Rattle.text.specs.Grammar.{Ws, JsonString, Simple, simple_kind, IsSimple, opening, Phrase, value, item, items, Is, simple, empty, full, element, member, one, comma, tree_of, closing}
use Rattle.text.specs.Seats.{Seat, under, behind, Sits}
use Rattle.text.proofs.Grammar.Stands.{by_order, Like, stands_inside, like_none, like_tail, like_skip, like_here}
use Rattle.text.proofs.Grammar.Exact.{TokenSays, PastPlace, TokenFollows}
use Rattle.text.proofs.Grammar.Quotes.{quoted_at, string_exact}
use Rattle.text.proofs.Grammar.Words.{Behind, close, comma as a-comma, simple_of, simple_exact, simple_first, simple_opens, token_simple, kind_text, kind_way, skip_follow, skip_later, skip_inside}
use Rattle.text.proofs.Grammar.Trees.{join_none, in_left}
use Rattle.text.proofs.Grammar.Names.{NamesSpell, names_join, named_known}
use Rattle.text.proofs.Grammar.Wrong.{Wrong, string, name, again, many}
use Rattle.text.proofs.Grammar.Wrong as W
use Rattle.text.proofs.Grammar.Sound.{place_of, byte_opening, glued, glue_end}
use Rattle.text.proofs.Grammar.Told.{item_at, quote_first, item_names}
use Rattle.text.proofs.Grammar.Rules.{end_quoted}
use Rattle.text.proofs.Grammar.Within.{value_later, item_within, items_later}
use Rattle.text.proofs.Grammar.Meets.{simple_long, third, fourth, fifth, sixth, Meets, past, same, wrong, MeetsNew, meets_close, meets_join, firstly, dark_closing, high_closing, first, space_behind, length_glued, three_text}

module _ (L : Limits) (t : List ℕ) where
  -- ---- the value at a first byte ----

  pub opens_deep : (b : Bracket) (ns ne at n : ℕ) → byte_at t at ≡ opening b → value_at L t zero ns ne at n ≡ deep ns ne at n
  unfolding value_at value_with kind_by
  opens_deep square ns ne at n h = rw h
  opens_deep curly ns ne at n h = rw h

  pub opens : (b : Bracket) (depth ns ne at n : ℕ) → byte_at t at ≡ opening b
      → value_at L t (suc depth) ns ne at n ≡ container L b (inside_of t (item_at L t depth b) (closing b)) ns ne at n
  unfolding value_at value_with kind_by
  opens square depth ns ne at n h = rw h
  opens curly depth ns ne at n h = rw h

  counts : (k : Simple) (arrays objects : Reader) (ns ne at n : ℕ) → kind_by (byte_at t at) ≡ simple_kind k → value_with L t arrays objects ns ne at n ≡ scalar_at L t (simple_kind k) ns ne at n
  unfolding value_with
  counts k arrays objects ns ne at n e = rw e (kind_way k _ _ _ _)

  pub counts_at : (k : Simple) (depth ns ne at n : ℕ) → kind_by (byte_at t at) ≡ simple_kind k → value_at L t depth ns ne at n ≡ scalar_at L t (simple_kind k) ns ne at n
  unfolding value_at
  counts_at k zero ns ne at n e = counts k _ _ ns ne at n e
  counts_at k (suc depth) ns ne at n e = counts k _ _ ns ne at n e

  module _ (q : ℕ) where
    -- ---- a value that holds no others ----

    scalar_follow : (w : List ℕ) (k : Simple) (s : List ℕ) (c : Seat) (ns ne at : ℕ) → c.after ≤ L.values → at ≤ length t → at < q → IsSimple k w → Behind (byte_at s 0)
        → Like t q at (w ++ s)
        → MeetsNew L t q c (leaf (simple_kind k) ns ne at (at + length w) none) (at + length w) (scalar_at L t (simple_kind k) ns ne at c.after)
    unfolding scalar_at scalar_with size
    scalar_follow w k s c ns ne at few i b l o h =
        if_most (MeetsNew L t q c (leaf (simple_kind k) ns ne at (at + length w) none) (at + length w)) L.values c.after
        (λ m. wrong Sits.leaf_here (many (omega arith)) sixth (inr (omega (arith, simple_long k w l))))
        (λ m. rw (token_simple t k at (rw (like_here h b) (simple_opens k w s l))) (go m (simple_of t k at) refl ((simple_exact t k).follow q at w s i l o h)))
      where
        go : c.after < L.values → (key : Result ℕ (Fault ℕ)) → simple_of t k at ≡ key → TokenFollows q (at + length w) key
            → MeetsNew L t q c (leaf (simple_kind k) ns ne at (at + length w) none) (at + length w) (scalar_with (simple_kind k) ns ne at key)
        go m (Ok to) e (inl u) = rw u (same (omega arith))
        go m (Ok to) e (inr u) = past u.word u.answer
        go m (Err (Malformed x)) e u = past u.word u.answer
        go m (Err (Forbidden x)) e u = let f = three_text t k at x e in wrong Sits.leaf_here (string f (sym (kind_text t k at f) ∙ e)) third u

    -- ---- a container, from what is inside it ----

    container_follow : (b : Bracket) (f : Forest) (to : ℕ) (c : Seat) (ns ne at : ℕ) → at < to → c.after ≤ L.values → at ≤ length t → (at < q → byte_at t at ≡ opening b)
        → ((depth : ℕ) → c.inside + 1 + depth ≡ L.depth → at + 1 ≤ length t → c.after < L.values → MeetsNew L t q (under c) f to
        (inside_of t (item_at L t depth b) (closing b) (at + 1) (c.after + 1)))
        → (depth : ℕ) → c.inside + depth ≡ L.depth → MeetsNew L t q c (node b ns ne at to f none) to (value_at L t depth ns ne at c.after)
    unfolding container deep
    container_follow b f to c ns ne at far few i e g zero room =
        by_order at q (λ l. rw (opens_deep b ns ne at c.after (e l)) (wrong Sits.node_here (W.Wrong.deep refl (omega arith)) fifth (inr far)))
        (λ l. past (omega arith) (omega (arith, value_later L t zero ns ne at c.after i)))
    container_follow b f to c ns ne at far few i e g (suc depth) room =
        by_order at q
        (λ l.
        let j = inside t at (rw (e l) (byte_opening b)) in
        rw (opens b depth ns ne at c.after (e l))
        (if_most (MeetsNew L t q c (node b ns ne at to f none) to) L.values c.after
        (λ m. wrong Sits.node_here (many (omega arith)) sixth (inr far))
        (λ m. meets_close L t q b ns ne at (g depth (omega arith) (omega arith) m))))
        (λ l. past (omega arith) (omega (arith, value_later L t (suc depth) ns ne at c.after i)))

    -- ---- white space and what follows it ----

    pub skip_like : {at : ℕ} {s : List ℕ} (l : List ℕ) → at ≤ length t → Ws s → is_space (byte_at l 0) ≡ false → Like t q at (s ++ l) → Like t q (skip t at) l
    skip_like {at} {s} l i c o h = ⊎_elim (λ e. rw e (like_skip s h)) (λ e. like_none l e.answer) (skip_follow t l i c o h)

    -- another byte behind it
    pub skip_stuck : {at : ℕ} {s : List ℕ} (l : List ℕ) → at ≤ length t → Ws s → is_space (byte_at l 0) ≡ false → Like t q at (s ++ l) → (byte_at t (skip t at) ≡ byte_at l 0 → ⊥)
        → PastPlace q (at + length s) (skip t at)
    skip_stuck {at} {s} l i c o h n =
        ⊎_elim
        (λ (e : skip t at ≡ at + length s). by_order (at + length s) q (λ k. absurd (n (rw e (like_here (like_skip s h) k)))) (λ k. record { word = k; answer = omega arith }))
        (λ u. u) (skip_follow t l i c o h)

    -- ---- what is inside a container: nothing, or items ----

    module _ (b : Bracket) (depth : ℕ) (c : Seat) (room : c.inside + 1 + depth ≡ L.depth) (few : c.after < L.values) where
      inside_empty : {s : List ℕ} (r : List ℕ) (at : ℕ) → at + 1 ≤ length t → Ws s → Like t q (at + 1) (s ++ closing b ∷ r)
          → MeetsNew L t q (under c) none (at + length s + 2) (inside_of t (item_at L t depth b) (closing b) (at + 1) (c.after + 1))
      unfolding inside_of size
      inside_empty {s} r at i p h =
          let x = skip t (at + 1) in
          let P = MeetsNew L t q (under c) none (at + length s + 2) in
          if_equal P (byte_at t x) (closing b)
          (λ e. ⊎_elim (λ (u : x ≡ at + 1 + length s). let two : x + 1 ≡ at + length s + 2 = omega arith in rw two (same (omega arith)))
          (λ u. past (omega (arith, u.word)) (omega (arith, u.answer))) (skip_follow t (closing b ∷ r) i p (dark_closing b) h))
          (λ e. let u = skip_stuck (closing b ∷ r) i p (dark_closing b) h e in past (omega (arith, u.word))
          (omega (arith, u.answer, items_later L t depth b (suc (length t)) x (c.after + 1) none (skip_inside t (at + 1) i))))

      inside_full : {s w : List ℕ} (d : Is (items b) w) (r : List ℕ) (at : ℕ) (f : Forest) → at + 1 ≤ length t → Ws s → Like t q (at + 1) (s ++ (w ++ closing b ∷ r))
          → ((x : ℕ) → x ≡ at + 1 + length s → x ≤ length t → Meets L t q (under c) (join none f) f (at + 1 + length s + length w + 1)
          (items_from t (item_at L t depth b) (closing b) (suc (length t)) x (c.after + 1) none))
          → MeetsNew L t q (under c) f (at + length s + length w + 2) (inside_of t (item_at L t depth b) (closing b) (at + 1) (c.after + 1))
      unfolding inside_of join
      inside_full {s} {w} d r at f i p h m =
          let x = skip t (at + 1) in
          let two : at + 1 + length s + length w + 1 ≡ at + length s + length w + 2 = omega arith in
          let o = first d (closing b ∷ r) in
          if_equal (MeetsNew L t q (under c) f (at + length s + length w + 2)) (byte_at t x) (closing b)
          (λ e. let u = skip_stuck (w ++ closing b ∷ r) i p o.dark h (λ k. o.apart_from b (sym k ∙ e)) in past (omega (arith, u.word)) (omega (arith, u.answer)))
          (λ e. ⊎_elim (λ u. rw two at (m x u (skip_inside t (at + 1) i))) (λ u. past (omega (arith, u.word))
          (omega (arith, u.answer, items_later L t depth b (suc (length t)) x (c.after + 1) none (skip_inside t (at + 1) i)))) (skip_follow t (w ++ closing b ∷ r) i p o.dark h))

    -- ---- after an item ----

    module _ (b : Bracket) (c : Seat) (more : Forest → ℕ → Read) (later : (f : Forest) (to : ℕ) → to ≤ length t → to ≤ place_of (more f to)) where
      -- past white space, a comma and white space
      over : (f : Forest) (to : ℕ) → byte_at t (skip t to) ≡ 44
          → (skip t to + 1 ≤ skip t (skip t to + 1)) × (skip t (skip t to + 1) ≤ length t) × (skip t (skip t to + 1) ≤ place_of (more f (skip t (skip t to + 1))))
      over f to k =
          let j : skip t to + 1 ≤ length t = omega (arith, inside t (skip t to) (omega arith)) in
          let l = skip_inside t (skip t to + 1) j in
          (skip_later t (skip t to + 1), l, later f (skip t (skip t to + 1)) l)

      after_place : (R : Read) → place_of R ≤ place_of (after_item t (closing b) c.beside more R)
      unfolding after_item
      after_place (bad r) = omega arith
      after_place (good f to) =
          let l = skip_later t to in
          if_equal (λ R. to ≤ place_of R) (byte_at t (skip t to)) (closing b) (λ e. omega arith)
          (λ e. if_equal (λ R. to ≤ place_of R) (byte_at t (skip t to)) 44 (λ k. omega (arith, over f to k)) (λ k. omega arith))

      after_follow : {T G : Forest} (S : Forest) {to x : ℕ} {R : Read} → to ≤ x → place_of R ≤ length t → MeetsNew L t q c T to R
          → (to ≤ length t → c.after + size T ≤ L.values → R ≡ good T to → Meets L t q c G (join T S) x (after_item t (closing b) c.beside more (good T to)))
          → Meets L t q c G (join T S) x (after_item t (closing b) c.beside more R)
      unfolding after_item
      after_follow S far i (past {R} k h) g = past {R = after_item t (closing b) c.beside more R} (omega arith) (omega (arith, after_place R))
      after_follow S far i (same k) g = g i k refl
      after_follow S far i (wrong j w n (inl o)) g = wrong (in_left S j) w n (inl (omega arith))
      after_follow S far i (wrong j w n (inr o)) g = wrong (in_left S j) w n (inr (omega arith))

      -- the last item
      last_follow : {T : Forest} {to : ℕ} {s : List ℕ} (r : List ℕ) {R : Read} → place_of R ≤ length t → Ws s → Like t q to (s ++ closing b ∷ r) → MeetsNew L t q c T to R
          → Meets L t q c (join c.beside T) T (to + length s + 1) (after_item t (closing b) c.beside more R)
      unfolding after_item
      last_follow {T} {to} {s} r {R} i p h m =
          let P = Meets L t q c (join c.beside T) (join T none) (to + length s + 1) in
          let x = skip t to in
          let all : P (after_item t (closing b) c.beside more R) =
          after_follow none (omega arith) i m
          (λ j k v. if_equal P (byte_at t x) (closing b)
          (λ e. ⊎_elim (λ u. rw u (same (rw (join_none T) k))) (λ u. past (omega (arith, u.word)) (omega (arith, u.answer))) (skip_follow t (closing b ∷ r) j p (dark_closing b) h))
          (λ e. let u = skip_stuck (closing b ∷ r) j p (dark_closing b) h e in if_equal P (byte_at t x) 44
          (λ k. past (omega (arith, u.word)) (omega (arith, u.answer, over T to k))) (λ k. past (omega (arith, u.word)) u.answer))) in
          subst (λ (S : Forest). Meets L t q c (join c.beside T) S (to + length s + 1) (after_item t (closing b) c.beside more R)) (join_none T) all

      -- an item and a comma
      comma_follow : {T : Forest} (S : Forest) {to z : ℕ} {s r : List ℕ} (w : List ℕ) {R : Read} → to + length s + 1 + length r ≤ z → place_of R ≤ length t → Ws s → Ws r
          → is_space (byte_at w 0) ≡ false
          → Like t q to (s ++ 44 ∷ (r ++ w)) → MeetsNew L t q c T to R
          → ((y : ℕ) → y ≡ to + length s + 1 + length r → y ≤ length t → c.after + size T ≤ L.values → R ≡ good T to → Meets L t q (behind c T) (join (join c.beside T) S) S z (more T y))
          → Meets L t q c (join c.beside (join T S)) (join T S) z (after_item t (closing b) c.beside more R)
      unfolding after_item
      comma_follow {T} S {to} {z} {s} {r} w far i p o dark h m g =
          let P = Meets L t q c (join c.beside (join T S)) (join T S) z in
          let x = skip t to in
          let y = skip t (x + 1) in
          after_follow S (omega arith) i m
          (λ j k read.
          let l = skip_like (44 ∷ (r ++ w)) j p refl h in
          let stuck = skip_stuck (44 ∷ (r ++ w)) j p refl h in
          if_equal P (byte_at t x) (closing b)
          (λ e. let u = stuck (λ n. omega (arith, high_closing b)) in past (omega (arith, u.word)) (omega (arith, u.answer)))
          (λ e. if_equal P (byte_at t x) 44
          (λ n.
          let v = over T to n in
          ⊎_elim
          (λ (a : x ≡ to + length s). ⊎_elim (λ a₂. meets_join L t q c.beside T S k (g y (omega arith) v.1 k read))
          (λ a₂. past (omega (arith, a₂.word)) (omega (arith, a₂.answer))) (skip_follow t w (omega arith) o dark (like_tail l)))
          (λ a. past (omega (arith, a.word)) (omega (arith, a.answer))) (skip_follow t (44 ∷ (r ++ w)) j p refl h))
          (λ n. let u = stuck n in past (omega (arith, u.word)) u.answer)))

    -- ---- a member ----

    module _ (depth : ℕ) (c : Seat) (room : c.inside + depth ≡ L.depth) (at : ℕ) (i : at ≤ length t) (m s r w z : List ℕ) (p : Ws s) (o : Ws r) (d : Is value w)
        (h : Like t q at (m ++ (s ++ 58 ∷ (r ++ (w ++ z))))) where
      -- the tree and the place after it
      abbrev tree_of_it : Forest
      tree_of_it = tree_of d (at + 1) (at + length m - 1) (at + length m + length s + 1 + length r)

      abbrev end_of : ℕ
      end_of = at + length m + length s + 1 + length r + length w

      colon_follow : ((ns ne at : ℕ) → at ≤ length t → Like t q at (w ++ z) → MeetsNew L t q c (tree_of d ns ne at) (at + length w) (value_at L t depth ns ne at c.after))
          → (end : ℕ) → end ≤ length t → (end ≡ at + length m) ⊎ PastPlace q (at + length m) end → MeetsNew L t q c tree_of_it end_of (colon_at t (value_at L t depth) at end c.after)
      unfolding colon_at
      colon_follow g end j u =
          let P = MeetsNew L t q c tree_of_it end_of in
          let dark = (first d z).dark in
          let x = skip t end in
          let xl = skip_later t end in
          if_equal P (byte_at t x) 58
          (λ b.
          let k : x + 1 ≤ length t = omega (arith, inside t x (omega arith)) in
          let y = skip t (x + 1) in
          let yl = skip_later t (x + 1) in
          let yi = skip_inside t (x + 1) k in
          let vl = value_later L t depth (at + 1) (end - 1) y c.after yi in
          ⊎_elim
          (λ (e : end ≡ at + length m).
          let l : Like t q end (s ++ 58 ∷ (r ++ (w ++ z))) = rw e (like_skip m h) in
          let lx = skip_like (58 ∷ (r ++ (w ++ z))) j p refl l in
          ⊎_elim
          (λ (e₂ : x ≡ end + length s).
          ⊎_elim
          (λ (e₃ : y ≡ x + 1 + length r).
          let yy : y ≡ at + length m + length s + 1 + length r = omega arith in
          let ly : Like t q (at + length m + length s + 1 + length r) (w ++ z) = rw yy at (skip_like (w ++ z) k o dark (like_tail lx)) in
          rw (yy, e) (g (at + 1) (at + length m - 1) (at + length m + length s + 1 + length r) (omega arith) ly))
          (λ e₃. past (omega (arith, e₃.word)) (omega (arith, e₃.answer))) (skip_follow t (w ++ z) k o dark (like_tail lx)))
          (λ e₂. past (omega (arith, e₂.word)) (omega (arith, e₂.answer))) (skip_follow t (58 ∷ (r ++ (w ++ z))) j p refl l))
          (λ e. past (omega (arith, e.word)) (omega (arith, e.answer))) u)
          (λ b. ⊎_elim
          (λ (e : end ≡ at + length m).
          let l : Like t q end (s ++ 58 ∷ (r ++ (w ++ z))) = rw e (like_skip m h) in
          let v = skip_stuck (58 ∷ (r ++ (w ++ z))) j p refl l b in
          past (omega (arith, v.word)) v.answer)
          (λ e. past (omega (arith, e.word)) (omega (arith, e.answer))) u)

      member_follow : NamesSpell t c.beside → ((ns ne at : ℕ) → at ≤ length t → Like t q at (w ++ z) → MeetsNew L t q c (tree_of d ns ne at) (at + length w) (value_at L t depth ns ne at c.after))
          → (key : Result ℕ (Fault ℕ)) → quoted_at t at ≡ key → TokenSays t JsonString at key → TokenFollows q (at + length m) key
          → MeetsNew L t q c tree_of_it end_of (member_with L t (value_at L t depth) c.beside at c.after key)
      unfolding member_with
      member_follow names g (Err (Malformed x)) e k u = past (omega (arith, u.word)) u.answer
      member_follow names g (Err (Forbidden x)) e k u =
          let f = firstly c d (at + 1) (at + length m - 1) (at + length m + length s + 1 + length r) in wrong f.there (name at f.name e) third
          (⊎_elim (λ a. inl (omega arith)) (λ a. inr (omega arith)) u)
      member_follow names g (Ok end) e k u =
          let P = MeetsNew L t q c tree_of_it end_of in
          let colon = colon_follow g end (stands_inside k.stands i) u in
          if_true P L.unique
          (λ v. if_true P (named t (name_of t (at + 1) (end - 1)) c.beside)
          (λ n. let f = firstly c d (at + 1) (at + length m - 1) (at + length m + length s + 1 + length r) in wrong f.there (again v f.name e (named_known t (end_quoted t at e).spells names n)) fourth (inr (omega arith)))
          (λ n. colon))
          (λ v. colon)

-- ---- by induction on the derivation ----

-- what is shown of a derivation d of the bytes w
abbrev Follows : (L : Limits) (t : List ℕ) (q : ℕ) (a : Phrase) (w : List ℕ) → Is a w → Type 0
Follows L t q value w d =
    (s : List ℕ) → Behind (byte_at s 0) → (depth : ℕ) (c : Seat) (ns ne at : ℕ) → c.inside + depth ≡ L.depth → c.after ≤ L.values → at ≤ length t → Like t q at (w ++ s)
    → MeetsNew L t q c (tree_of d ns ne at) (at + length w) (value_at L t depth ns ne at c.after)
Follows L t q (item b) w d =
    (s : List ℕ) → Behind (byte_at s 0) → (depth : ℕ) (c : Seat) (at : ℕ) → c.inside + depth ≡ L.depth → c.after ≤ L.values → at ≤ length t → Like t q at (w ++ s) → NamesSpell t c.beside
    → MeetsNew L t q c (tree_of d 0 0 at) (at + length w) (item_at L t depth b c.beside at c.after)
Follows L t q (items b) w d =
    (r : List ℕ) (depth turns : ℕ) (c : Seat) (at : ℕ) → c.inside + depth ≡ L.depth → c.after ≤ L.values → length t < turns + at → at ≤ length t → Like t q at (w ++ closing b ∷ r)
    → NamesSpell t c.beside
    → Meets L t q c (join c.beside (tree_of d 0 0 at)) (tree_of d 0 0 at) (at + length w + 1) (items_from t (item_at L t depth b) (closing b) turns at c.after c.beside)

-- a turn
pub turn : (P : Read → Type 0) (L : Limits) (t : List ℕ) (b : Bracket) (depth turns at n : ℕ) (before : Forest) → length t < turns + at → at ≤ length t
    → ((left : ℕ) → length t < suc left + at → P (after_item t (closing b) before (λ f to. items_from t (item_at L t depth b) (closing b) left to (n + size f) (join before f))
    (item_at L t depth b before at n)))
    → P (items_from t (item_at L t depth b) (closing b) turns at n before)
unfolding items_from
turn P L t b depth zero at n before e i g = absurd (omega arith)
turn P L t b depth (suc left) at n before e i g = g left e

pub follow : (L : Limits) (t : List ℕ) (q : ℕ) {a : Phrase} {w : List ℕ} (d : Is a w) → Follows L t q a w d
unfolding tree_of
follow L t q (simple {w} k l) = λ s o depth c ns ne at room few i h.
    by_order at q
    (λ b. rw (counts_at L t k depth ns ne at c.after (rw (like_here h b) (simple_first k w s l))) (scalar_follow L t q w k s c ns ne at few i b l o h))
    (λ b. past (omega arith) (omega (arith, value_later L t depth ns ne at c.after i)))
follow L t q (empty {s} b p) = λ z o depth c ns ne at room few i h.
    let l = rw (append_assoc s (closing b ∷ []) z) at (like_tail h) in
    let e : at + suc (length (s ++ closing b ∷ [])) ≡ at + length s + 2 = omega (arith, length-append s (closing b ∷ [])) in
    rw e (container_follow L t q b none (at + length s + 2) c ns ne at (omega arith) few i (like_here h) (λ depth r j m. inside_empty L t q b depth c r m z at j p l) depth room)
follow L t q (full {s} {w} b p d) = λ z o depth c ns ne at room few i h.
    let l = rw (append_assoc s (w ++ closing b ∷ []) z, append_assoc w (closing b ∷ []) z) at (like_tail h) in
    let e : at + suc (length (s ++ (w ++ closing b ∷ []))) ≡ at + length s + length w + 2 = omega (arith, length-append s (w ++ closing b ∷ []), length-append w (closing b ∷ [])) in
    let T = tree_of d 0 0 (at + 1 + length s) in
    rw e
    (container_follow L t q b T (at + length s + length w + 2) c ns ne at (omega arith) few i (like_here h)
    (λ depth r j m. inside_full L t q b depth c r m d z at T j p l
    (λ x u k. rw u (follow L t q d z depth (suc (length t)) (under c) (at + 1 + length s) r (omega arith) (omega arith) (omega arith) (like_skip s l) NamesSpell.no_more))) depth room)
follow L t q (element d) = λ s o depth c at room few i h names. follow L t q d s o depth c 0 0 at room few i h
follow L t q (member {m} {s} {r} {w} g p o d) = λ z b depth c at room few i h names.
    let l = rw (glue_end 58 m s r w z) at h in
    let e : at + length (glued 58 m s r w) ≡ at + length m + length s + 1 + length r + length w = omega (arith, length_glued 58 m s r w) in
    rw (e, quote_first L t (value_at L t depth) c.beside at c.after)
    (member_follow L t q depth c room at i m s r w z p o d l names (λ ns ne at i l. follow L t q d z b depth c ns ne at room few i l)
    (quoted_at t at) refl ((string_exact t).told at i) ((string_exact t).follow q at m (s ++ 58 ∷ (r ++ (w ++ z))) i g tt l))
follow L t q (one {v} {s} {b} d p) = λ r depth turns c at room few e i h names.
    let l = rw (append_assoc v s (closing b ∷ r)) at h in
    let x : at + length (v ++ s) + 1 ≡ at + length v + length s + 1 = omega (arith, length-append v s) in
    let T = tree_of d 0 0 at in
    rw x
    (turn (Meets L t q c (join c.beside T) T (at + length v + length s + 1)) L t b depth turns at c.after c.beside e i
    (λ left u. last_follow L t q b c _ (λ f to j. items_later L t depth b left to (c.after + size f) (join c.beside f) j) r
    (item_within L t depth b c.beside at c.after i) p (like_skip v l)
    (follow L t q d (s ++ closing b ∷ r) (space_behind (closing b ∷ r) p (close b)) depth c at room few i l names)))
follow L t q (comma {v} {s} {r = r} {w} {b} d p o f) = λ z depth turns c at room few e i h names.
    let l = rw (glue_end 44 v s r w (closing b ∷ z)) at h in
    let x : at + length (glued 44 v s r w) + 1 ≡ at + length v + length s + 1 + length r + length w + 1 = omega (arith, length_glued 44 v s r w) in
    let T = tree_of d 0 0 at in
    let S = tree_of f 0 0 (at + length v + length s + 1 + length r) in
    let lw = like_skip r (like_tail (like_skip s (like_skip v l))) in
    rw x
    (turn (Meets L t q c (join c.beside (join T S)) (join T S) (at + length v + length s + 1 + length r + length w + 1)) L t b depth turns at c.after c.beside e i
    (λ left u. comma_follow L t q b c _ (λ f to j. items_later L t depth b left to (c.after + size f) (join c.beside f) j) S (w ++ closing b ∷ z) (omega arith)
    (item_within L t depth b c.beside at c.after i) p o (first f (closing b ∷ z)).dark (like_skip v l)
    (follow L t q d (s ++ 44 ∷ (r ++ (w ++ closing b ∷ z))) (space_behind (44 ∷ (r ++ (w ++ closing b ∷ z))) p a-comma) depth c at room few i l names)
    (λ y a j m read.
    let both = names_join t names (item_names L t depth b c at i read) in
    rw a (follow L t q f z depth left (behind c T) (at + length v + length s + 1 + length r) room m (omega arith) (omega arith) lw both))))
