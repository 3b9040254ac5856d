-- Nothing wrong is passed over (`calm`): where a text is like a derived part as far as a place q, and something is wrong with a value of the part's tree before
-- q, then the definition refuses, and of no later place, nor of that place with a larger number. By induction on the derivation. Assumes nothing.
use Rattle.std.specs.Prelude.{Result, Ok, Err}
use Rattle.text.specs.declared.Fault.{Fault}
use Rattle.text.specs.declared.Fault.TheVariants.{Malformed, Forbidden}
use mathlib.Core.Path.{◌≡◌, refl, sym, ◌∙◌}
use mathlib.Core.List.{List, [], ◌∷◌, ◌++◌, append_assoc}
use mathlib.Core.Bool.{true, false}
use mathlib.Core.Logic.{◌⊎◌, inl, inr, ⊎_elim}
use Prim.Native.Nat.{ℕ, zero, suc, ◌+◌, ◌-◌, ◌≤◌, ◌<◌}
use native.Mathlib.Omega.{arith}
use native.Mathlib.Nat.{le_refl}
use lib.ListN.{length}
use Rattle.laws.proofs.Branches.{if_equal, if_most, if_true}
use Rattle.laws.proofs.Places.{inside}
use Rattle.text.specs.Limits.{Limits}
use Rattle.text.specs.Text.{byte_at}
use Rattle.text.specs.Strings.{name_of}
use Rattle.text.specs.Tokens.{is_space, skip}
use Rattle.text.specs.Tree.{Bracket, Forest, none, leaf, node, size, join}
use Rattle.text.specs.Reader.{Read, good, bad, scalar_with, scalar_at, close_of, container, deep, after_item, items_from, inside_of, named, colon_at, member_with, value_at}
use Rattle.text.specs.Grammar.{Ws, JsonString, Simple, simple_kind, IsSimple, opening, Phrase, value, item, items, Is, simple, empty, full, element, member, one, comma, tree_of, closing}
use Rattle.text.specs.Seats.{Head, Seat, under, behind, Sits}
use Rattle.text.specs.declared.Refusal.{Refusal}
use Rattle.text.specs.declared.Refusal.TheVariants.{Deep, Character, Repeated}
use Rattle.text.proofs.Grammar.Stands.{clash, Like, stands_inside, like_tail, like_skip, like_here}
use Rattle.text.proofs.Grammar.Exact.{PastPlace, TokenSays, TokenFollows}
use Rattle.text.proofs.Grammar.Quotes.{quoted_at, bad_later, string_exact}
use Rattle.text.proofs.Grammar.Words.{Behind, close, comma as a-comma, simple_first, simple_opens, token_simple, kind_text, skip_follow, skip_inside}
use Rattle.text.proofs.Grammar.Trees.{EitherOf, first, later, in_join, in_none}
use Rattle.text.proofs.Grammar.Names.{NamesSpell, names_join, known_named}
use Rattle.text.proofs.Grammar.Wrong.{rank, Wrong, string, name, again, many, no_string}
use Rattle.text.proofs.Grammar.Wrong as W
use Rattle.text.proofs.Grammar.Sound.{place_of, byte_opening, glue_end}
use Rattle.text.proofs.Grammar.Told.{item_at, quote_first, item_names, no_two, no_end, three_end, same_three}
use Rattle.text.proofs.Grammar.Within.{item_within}
use Rattle.text.proofs.Grammar.Meets.{number_of, numbered_has, MeetsNew, past, same, wrong, high_closing, first as lead-first, space_behind}
use Rattle.text.proofs.Grammar.Follow.{opens_deep, opens, counts_at, skip_like, skip_stuck, turn, follow}
use Rattle.text.proofs.Grammar.Low.{NameWrong, spelled, known, Whence, by_name_lem, within, low}
use Rattle.text.proofs.Grammar.Rules.{wrong_number}

-- the answer is a refusal that comes no later than the number m at x
pub data InTime (m x : ℕ) : Read → Type 0 where
  in_time : {r : Refusal} → rank (number_of r) (place_of (bad r)) ≤ rank m x → InTime m x (bad r)

time_close : {m x : ℕ} {R : Read} (b : Bracket) (ns ne at : ℕ) → InTime m x R → InTime m x (close_of b ns ne at R)
unfolding close_of
time_close b ns ne at (in_time h) = in_time h

time_after : {m x : ℕ} {R : Read} (t : List ℕ) (z : ℕ) (before : Forest) (more : Forest → ℕ → Read) → InTime m x R → InTime m x (after_item t z before more R)
unfolding after_item
time_after t z before more (in_time h) = in_time h

module _ (L : Limits) (t : List ℕ) (q : ℕ) where
  -- whatever is wrong with these values before q is refused in time
  pub record Calm (c : Seat) (f : Forest) (R : Read) : Type 0 where
    pub least : (s : Seat) (h : Head) (m x : ℕ) → Sits c f s h → Wrong L t s h m x → x < q → InTime m x R

  -- no name of a value that stands there is wrong before q
  abbrev pub GoodNames : Forest → ℕ → Type 0
  GoodNames before ns = (m x : ℕ) → NameWrong L t before ns m x → x < q → ⊥

  -- ---- a value that holds no others ----

  module _ (w : List ℕ) (k : Simple) (z : List ℕ) (c : Seat) (ns ne at : ℕ) (l : IsSimple k w) (h : Like t q at (w ++ z)) (g : GoodNames c.beside ns) where
    scalar_time : (s : Seat) (o : Head) (m x : ℕ) → Sits c (leaf (simple_kind k) ns ne at (at + length w) none) s o → Wrong L t s o m x → x < q
        → InTime m x (scalar_at L t (simple_kind k) ns ne at c.after)
    unfolding scalar_at scalar_with
    scalar_time s o m x (Rattle.text.specs.Seats.leaf_on x23) _ lt = elim x23 [ ]
    scalar_time s o m x Sits.leaf_here (string e b) lt =
        let n = bad_later t at x b in
        if_most (InTime 3 x) L.values c.after
        (λ j. in_time (omega arith))
        (λ j. rw (token_simple t k at (rw (like_here h (omega arith)) (simple_opens k w z l)), kind_text t k at e, b) (in_time (le_refl (rank 3 x))))
    scalar_time s o m x Sits.leaf_here (name j e b) lt = absurd (g 3 x (spelled j e b) lt)
    scalar_time s o m x Sits.leaf_here (again u e b n) lt = absurd (g 4 x (known u e b n) lt)
    scalar_time s o m x Sits.leaf_here (W.Wrong.deep e n) lt = clash false e refl
    scalar_time s o m x Sits.leaf_here (many e) lt = if_most (InTime 6 at) L.values c.after (λ j. in_time (le_refl (rank 6 at))) (λ j. absurd (omega arith))

  -- ---- a container ----

  -- its bracket, where none may be opened
  deep_time : (b : Bracket) (f : Forest) (to : ℕ) (c : Seat) (ns ne at : ℕ) → GoodNames c.beside ns
      → ((s : Seat) (h : Head) (m x : ℕ) → Sits (under c) f s h → Wrong L t s h m x → at < x)
      → (s : Seat) (h : Head) (m x : ℕ) → Sits c (node b ns ne at to f none) s h → Wrong L t s h m x → x < q → InTime m x (deep ns ne at c.after)
  unfolding deep
  deep_time b f to c ns ne at g lower s h m x (Rattle.text.specs.Seats.node_on x14) w lt = elim x14 [ ]
  deep_time b f to c ns ne at g lower s h m x (Sits.into i) w lt = in_time {r = Deep at} (omega (arith, lower s h m x i w))
  deep_time b f to c ns ne at g lower s h m x Sits.node_here (string e z) lt = absurd (no_string b e)
  deep_time b f to c ns ne at g lower s h m x Sits.node_here (name j e z) lt = absurd (g 3 x (spelled j e z) lt)
  deep_time b f to c ns ne at g lower s h m x Sits.node_here (again u e z n) lt = absurd (g 4 x (known u e z n) lt)
  deep_time b f to c ns ne at g lower s h m x Sits.node_here (W.Wrong.deep e n) lt = in_time (le_refl (rank 5 at))
  deep_time b f to c ns ne at g lower s h m x Sits.node_here (many e) lt = in_time {r = Deep at} (omega arith)

  -- and where some may
  box_time : (b : Bracket) (f : Forest) (to : ℕ) (c : Seat) (ns ne at depth : ℕ) (inner : ℕ → ℕ → Read) → c.inside + suc depth ≡ L.depth → GoodNames c.beside ns
      → ((s : Seat) (h : Head) (m x : ℕ) → Sits (under c) f s h → Wrong L t s h m x → at < x)
      → (c.after < L.values → Calm (under c) f (inner (at + 1) (c.after + 1)))
      → (s : Seat) (h : Head) (m x : ℕ) → Sits c (node b ns ne at to f none) s h → Wrong L t s h m x → x < q → InTime m x (container L b inner ns ne at c.after)
  unfolding container
  box_time b f to c ns ne at depth inner room g lower k s h m x (Rattle.text.specs.Seats.node_on x14) w lt = elim x14 [ ]
  box_time b f to c ns ne at depth inner room g lower k s h m x (Sits.into i) w lt =
      if_most (InTime m x) L.values c.after (λ j. in_time (omega (arith, lower s h m x i w)))
      (λ j. time_close b ns ne at ((k j).least s h m x i w lt))
  box_time b f to c ns ne at depth inner room g lower k s h m x Sits.node_here (string e z) lt = absurd (no_string b e)
  box_time b f to c ns ne at depth inner room g lower k s h m x Sits.node_here (name j e z) lt = absurd (g 3 x (spelled j e z) lt)
  box_time b f to c ns ne at depth inner room g lower k s h m x Sits.node_here (again u e z n) lt = absurd (g 4 x (known u e z n) lt)
  box_time b f to c ns ne at depth inner room g lower k s h m x Sits.node_here (W.Wrong.deep e n) lt = absurd (omega arith)
  box_time b f to c ns ne at depth inner room g lower k s h m x Sits.node_here (many e) lt =
      if_most (InTime 6 at) L.values c.after (λ j. in_time (le_refl (rank 6 at))) (λ j. absurd (omega arith))

  container_calm : (b : Bracket) (f : Forest) (to : ℕ) (c : Seat) (ns ne at : ℕ) → GoodNames c.beside ns → (at < q → byte_at t at ≡ opening b)
      → ((s : Seat) (h : Head) (m x : ℕ) → Sits (under c) f s h → Wrong L t s h m x → at < x)
      → ((s : Seat) (h : Head) (m x : ℕ) → Sits c (node b ns ne at to f none) s h → Wrong L t s h m x → Whence L t c.beside ns at m x)
      → ((depth : ℕ) → c.inside + 1 + depth ≡ L.depth → at < length t → c.after < L.values → Calm (under c) f (inside_of t (item_at L t depth b) (closing b) (at + 1) (c.after + 1)))
      → (depth : ℕ) → c.inside + depth ≡ L.depth → Calm c (node b ns ne at to f none) (value_at L t depth ns ne at c.after)
  container_calm b f to c ns ne at g e lower whence k depth room = record { least = λ s h m x i w lt. go s h m x i w lt depth room (whence s h m x i w) }
    where
      go : (s : Seat) (h : Head) (m x : ℕ) → Sits c (node b ns ne at to f none) s h → Wrong L t s h m x → x < q → (depth : ℕ) → c.inside + depth ≡ L.depth → Whence L t c.beside ns at m x
          → InTime m x (value_at L t depth ns ne at c.after)
      go s h m x i w lt depth room (by_name_lem n) = absurd (g m x n lt)
      go s h m x i w lt zero room (within o) = rw (opens_deep L t b ns ne at c.after (e (omega arith))) (deep_time b f to c ns ne at g lower s h m x i w lt)
      go s h m x i w lt (suc depth) room (within o) =
          let a = e (omega arith) in
          rw (opens L t b depth ns ne at c.after a)
          (box_time b f to c ns ne at depth _ room g lower (λ j. k depth (omega arith) (inside t at (rw a (byte_opening b))) j) s h m x i w lt)

  -- what is inside it: items, behind white space
  inside_calm : (b : Bracket) (depth : ℕ) (c : Seat) {s w : List ℕ} (d : Is (items b) w) (r : List ℕ) (at : ℕ) → at + 1 ≤ length t → Ws s → Like t q (at + 1) (s ++ (w ++ closing b ∷ r))
      → (at + 1 + length s ≤ length t → Calm (under c) (tree_of d 0 0 (at + 1 + length s))
      (items_from t (item_at L t depth b) (closing b) (suc (length t)) (at + 1 + length s) (c.after + 1) none))
      → Calm (under c) (tree_of d 0 0 (at + 1 + length s)) (inside_of t (item_at L t depth b) (closing b) (at + 1) (c.after + 1))
  unfolding inside_of
  inside_calm b depth c {s} {w} d r at i p h k =
      record {
        least = λ e o m x j v lt.
            let n = low L t d (under c) e o m x (at + 1 + length s) j v in
            let a = lead-first d (closing b ∷ r) in
            let y = skip t (at + 1) in
            if_equal (InTime m x) (byte_at t y) (closing b)
            (λ z. absurd (omega (arith, (skip_stuck L t q (w ++ closing b ∷ r) i p a.dark h (λ f. a.apart_from b (sym f ∙ z))).word)))
            (λ z. ⊎_elim (λ (f : y ≡ at + 1 + length s). rw f ((k (omega (arith, skip_inside t (at + 1) i))).least e o m x j v lt)) (λ f. absurd (omega (arith, f.word)))
            (skip_follow t (w ++ closing b ∷ r) i p a.dark h));
      }

  -- ---- items ----

  -- something wrong behind an item and a comma
  module _ (b : Bracket) (c : Seat) (more : Forest → ℕ → Read) (m x : ℕ) (lt : x < q) where
    comma_time : {T : Forest} {to : ℕ} {s r : List ℕ} (w : List ℕ) {R : Read} → to + length s + 1 + length r ≤ x → place_of R ≤ length t → Ws s → Ws r → is_space (byte_at w 0) ≡ false
        → Like t q to (s ++ 44 ∷ (r ++ w)) → MeetsNew L t q c T to R
        → ((y : ℕ) → y ≡ to + length s + 1 + length r → y ≤ length t → c.after + size T ≤ L.values → R ≡ good T to → InTime m x (more T y))
        → InTime m x (after_item t (closing b) c.beside more R)
    unfolding after_item
    comma_time w far i p o dark h (past k l) g = absurd (omega arith)
    comma_time w far i p o dark h (wrong j v n (inl k)) g = absurd (omega arith)
    comma_time w far i p o dark h (wrong {r = e} j v n (inr k)) g = let a = numbered_has n in in_time {r = e} (omega (arith, a.number, a.place, wrong_number L t v))
    comma_time {T} {to} {s} {r} w far i p o dark h (same k) g =
        let y = skip t to in
        let l = skip_like L t q (44 ∷ (r ++ w)) i p refl h in
        let stuck = skip_stuck L t q (44 ∷ (r ++ w)) i p refl h in
        if_equal (InTime m x) (byte_at t y) (closing b)
        (λ e. absurd (omega (arith, (stuck (λ n. omega (arith, high_closing b))).word)))
        (λ e. if_equal (InTime m x) (byte_at t y) 44
        (λ n.
        let j : y + 1 ≤ length t = omega (arith, inside t y (omega arith)) in
        ⊎_elim
        (λ (a : y ≡ to + length s). ⊎_elim (λ a₂. g (skip t (y + 1)) (omega arith) (skip_inside t (y + 1) j) k refl) (λ a₂. absurd (omega (arith, a₂.word)))
        (skip_follow t w j o dark (like_tail l)))
        (λ a. absurd (omega (arith, a.word))) (skip_follow t (44 ∷ (r ++ w)) i p refl h))
        (λ n. absurd (omega (arith, (stuck n).word))))

  -- ---- a member ----

  module _ (depth : ℕ) (c : Seat) (at : ℕ) (i : at ≤ length t) (v s r w z : List ℕ) (p : Ws s) (o : Ws r) (d : Is value w) (h : Like t q at (v ++ (s ++ 58 ∷ (r ++ (w ++ z))))) where
    -- where its value starts
    abbrev begin : ℕ
    begin = at + length v + length s + 1 + length r

    colon_time : (m x : ℕ) → begin ≤ x → x < q → (begin ≤ length t → InTime m x (value_at L t depth (at + 1) (at + length v - 1) begin c.after))
        → (end : ℕ) → end ≤ length t → (end ≡ at + length v) ⊎ PastPlace q (at + length v) end → InTime m x (colon_at t (value_at L t depth) at end c.after)
    unfolding colon_at
    colon_time m x far lt g end j (inr u) = absurd (omega (arith, u.word))
    colon_time m x far lt g end j (inl e) =
        let dark = (lead-first d z).dark in
        let y = skip t end in
        let l : Like t q end (s ++ 58 ∷ (r ++ (w ++ z))) = rw e (like_skip v h) in
        if_equal (InTime m x) (byte_at t y) 58
        (λ n.
        let k : y + 1 ≤ length t = omega (arith, inside t y (omega arith)) in
        let lx = skip_like L t q (58 ∷ (r ++ (w ++ z))) j p refl l in
        ⊎_elim
        (λ (a : y ≡ end + length s).
        ⊎_elim
        (λ (a₂ : skip t (y + 1) ≡ y + 1 + length r).
        let b : skip t (y + 1) ≡ begin = omega arith in
        rw (b, e) (g (omega (arith, skip_inside t (y + 1) k))))
        (λ a₂. absurd (omega (arith, a₂.word))) (skip_follow t (w ++ z) k o dark (like_tail lx)))
        (λ a. absurd (omega (arith, a.word))) (skip_follow t (58 ∷ (r ++ (w ++ z))) j p refl l))
        (λ n. absurd (omega (arith, (skip_stuck L t q (58 ∷ (r ++ (w ++ z))) j p refl l n).word)))

    -- its name is closed: known already, or new
    module _ (a : ℕ) (k : quoted_at t at ≡ Ok a) where
      known_time : (m x : ℕ) → Whence L t c.beside (at + 1) begin m x → InTime m x (bad (Repeated at))
      known_time m x (by_name_lem (spelled b e y)) = let l : b ≡ at = omega arith in three_end (rw l at y) k
      known_time m x (by_name_lem (known b e y n)) = in_time {r = Repeated at} (omega arith)
      known_time m x (within e) = in_time {r = Repeated at} (omega arith)

      new_names : (L.unique ≡ true → named t (name_of t (at + 1) (a - 1)) c.beside ≡ false) → GoodNames c.beside (at + 1)
      new_names new m x (spelled b e y) lt = let l : b ≡ at = omega arith in three_end (rw l at y) k
      new_names new m x (known {e = f} b e y n) lt =
          let l : x ≡ at = omega arith in
          let same_end : Ok f ≡ Ok a = sym (rw l at y) ∙ k in
          let l₂ : f ≡ a = cc in
          clash (named t (name_of t (at + 1) (a - 1)) c.beside) (known_named t (rw (l, l₂) at n)) (new b)

      new_time : (e : Seat) (f : Head) (m x : ℕ) → Sits c (tree_of d (at + 1) (at + length v - 1) begin) e f → Wrong L t e f m x → x < q → a ≤ length t
          → (a ≡ at + length v) ⊎ PastPlace q (at + length v) a
          → GoodNames c.beside (at + 1) → (begin ≤ length t → Calm c (tree_of d (at + 1) (at + length v - 1) begin) (value_at L t depth (at + 1) (at + length v - 1) begin c.after))
          → Whence L t c.beside (at + 1) begin m x → InTime m x (colon_at t (value_at L t depth) at a c.after)
      new_time e f m x j y lt n u names g (by_name_lem b) = absurd (names m x b lt)
      new_time e f m x j y lt n u names g (within b) = colon_time m x b lt (λ l. (g l).least e f m x j y lt) a n u

    -- by its name's token
    member_time : (GoodNames c.beside (at + 1) → begin ≤ length t → Calm c (tree_of d (at + 1) (at + length v - 1) begin)
        (value_at L t depth (at + 1) (at + length v - 1) begin c.after))
        → (e : Seat) (f : Head) (m x : ℕ) → Sits c (tree_of d (at + 1) (at + length v - 1) begin) e f → Wrong L t e f m x → x < q
        → (key : Result ℕ (Fault ℕ)) → quoted_at t at ≡ key → TokenSays t JsonString at key → TokenFollows q (at + length v) key → Whence L t c.beside (at + 1) begin m x
        → InTime m x (member_with L t (value_at L t depth) c.beside at c.after key)
    unfolding member_with
    member_time g e f m x j y lt (Err (Malformed a)) k n u (by_name_lem (spelled b o₂ z₂)) = let l : b ≡ at = omega arith in no_two k (rw l at z₂)
    member_time g e f m x j y lt (Err (Malformed a)) k n u (by_name_lem (known b o₂ z₂ n₂)) = let l : x ≡ at = omega arith in no_end k (rw l at z₂)
    member_time g e f m x j y lt (Err (Malformed a)) k n u (within o₂) = absurd (omega (arith, u.word))
    member_time g e f m x j y lt (Err (Forbidden a)) k n u (by_name_lem (spelled b o₂ z₂)) = let l : b ≡ at = omega arith in let l₂ = same_three k (rw l at z₂) in in_time {r = Character a} (omega arith)
    member_time g e f m x j y lt (Err (Forbidden a)) k n u (by_name_lem (known b o₂ z₂ n₂)) = let l : x ≡ at = omega arith in three_end k (rw l at z₂)
    member_time g e f m x j y lt (Err (Forbidden a)) k n (inl u) (within o₂) = absurd (omega arith)
    member_time g e f m x j y lt (Err (Forbidden a)) k n (inr u) (within o₂) = in_time {r = Character a} (omega arith)
    member_time g e f m x j y lt (Ok a) k n u whence =
        let new : GoodNames c.beside (at + 1) → InTime m x (colon_at t (value_at L t depth) at a c.after) =
        λ names. new_time a k e f m x j y lt (stands_inside n.stands i) u names (g names) whence in
        if_true (InTime m x) L.unique
        (λ b. if_true (InTime m x) (named t (name_of t (at + 1) (a - 1)) c.beside) (λ l. known_time a k m x whence) (λ l. new (new_names a k (λ b₂. l))))
        (λ b. new (new_names a k (λ b₂. clash L.unique b₂ b)))

-- an item, and items behind a comma
comma_calm : (L : Limits) (t : List ℕ) (q : ℕ) (b : Bracket) (depth turns : ℕ) (c : Seat) (at : ℕ) (s r w : List ℕ) (to : ℕ) (T S : Forest)
    → c.inside + depth ≡ L.depth → length t < turns + at → at ≤ length t → Ws s → Ws r → is_space (byte_at w 0) ≡ false → Like t q to (s ++ 44 ∷ (r ++ w))
    → ((e : Seat) (h : Head) (m x : ℕ) → Sits (behind c T) S e h → Wrong L t e h m x → to + length s + 1 + length r ≤ x)
    → Calm L t q c T (item_at L t depth b c.beside at c.after) → MeetsNew L t q c T to (item_at L t depth b c.beside at c.after)
    → ((left y : ℕ) → length t < suc left + at → y ≡ to + length s + 1 + length r → y ≤ length t → c.after + size T ≤ L.values
    → item_at L t depth b c.beside at c.after ≡ good T to → Calm L t q (behind c T) S (items_from t (item_at L t depth b) (closing b) left y (c.after + size T) (join c.beside T)))
    → Calm L t q c (join T S) (items_from t (item_at L t depth b) (closing b) turns at c.after c.beside)
comma_calm L t q b depth turns c at s r w to T S room e i p o dark h lower calm₁ met calm₂ =
    record { least = λ a f m x j y lt. turn (InTime m x) L t b depth turns at c.after c.beside e i (λ left u. go a f m x y lt left u (in_join T S j)) }
  where
    go : (a : Seat) (f : Head) (m x : ℕ) → Wrong L t a f m x → x < q → (left : ℕ) → length t < suc left + at → EitherOf c T S a f
        → InTime m x (after_item t (closing b) c.beside (λ f to. items_from t (item_at L t depth b) (closing b) left to (c.after + size f) (join c.beside f))
        (item_at L t depth b c.beside at c.after))
    go a f m x y lt left u (first j) = time_after t (closing b) c.beside _ (calm₁.least a f m x j y lt)
    go a f m x y lt left u (later j) =
        comma_time L t q b c _ m x lt w (lower a f m x j y) (item_within L t depth b c.beside at c.after i) p o dark h met (λ z k n l read. (calm₂ left z u k n l read).least a f m x j y lt)

-- ---- by induction on the derivation ----

-- what is shown of a derivation d of the bytes w
abbrev pub Calms : (L : Limits) (t : List ℕ) (q : ℕ) (a : Phrase) (w : List ℕ) → Is a w → Type 0
Calms L t q value w d =
    (s : List ℕ) → Behind (byte_at s 0) → (depth : ℕ) (c : Seat) (ns ne at : ℕ) → c.inside + depth ≡ L.depth → c.after ≤ L.values → at ≤ length t → Like t q at (w ++ s)
    → GoodNames L t q c.beside ns → Calm L t q c (tree_of d ns ne at) (value_at L t depth ns ne at c.after)
Calms L t q (item b) w d =
    (s : List ℕ) → Behind (byte_at s 0) → (depth : ℕ) (c : Seat) (at : ℕ) → c.inside + depth ≡ L.depth → c.after ≤ L.values → at ≤ length t → Like t q at (w ++ s)
    → Calm L t q c (tree_of d 0 0 at) (item_at L t depth b c.beside at c.after)
Calms L t q (items b) w d =
    (r : List ℕ) (depth turns : ℕ) (c : Seat) (at : ℕ) → c.inside + depth ≡ L.depth → c.after ≤ L.values → length t < turns + at → at ≤ length t → Like t q at (w ++ closing b ∷ r)
    → NamesSpell t c.beside → Calm L t q c (tree_of d 0 0 at) (items_from t (item_at L t depth b) (closing b) turns at c.after c.beside)

-- a value without a name has no wrong one
pub no_names : (L : Limits) (t : List ℕ) (q : ℕ) (before : Forest) → GoodNames L t q before 0
no_names L t q before m x (spelled j e z) lt = omega arith
no_names L t q before m x (known u e z n) lt = omega arith

pub calm : (L : Limits) (t : List ℕ) (q : ℕ) {a : Phrase} {w : List ℕ} (d : Is a w) → Calms L t q a w d
unfolding tree_of
calm L t q (simple {w} k l) = λ z o depth c ns ne at room few i h g.
    record { least = λ s y m x j v lt. go z c depth ns ne at h g s y m x j v lt (low L t (simple k l) c s y m x ns ne at j v) }
  where
    go : (z : List ℕ) (c : Seat) (depth ns ne at : ℕ) → Like t q at (w ++ z) → GoodNames L t q c.beside ns → (s : Seat) (y : Head) (m x : ℕ)
        → Sits c (leaf (simple_kind k) ns ne at (at + length w) none) s y → Wrong L t s y m x → x < q → Whence L t c.beside ns at m x → InTime m x (value_at L t depth ns ne at c.after)
    go z c depth ns ne at h g s y m x j v lt (by_name_lem n) = absurd (g m x n lt)
    go z c depth ns ne at h g s y m x j v lt (within n) =
        rw (counts_at L t k depth ns ne at c.after (rw (like_here h (omega arith)) (simple_first k w z l))) (scalar_time L t q w k z c ns ne at l h g s y m x j v lt)
calm L t q (empty {s} b p) = λ z o depth c ns ne at room few i h g.
    container_calm L t q b none (at + length s + 2) c ns ne at g (like_here h) (λ e y m x j v. in_none j) (λ e y m x j v. low L t (empty b p) c e y m x ns ne at j v)
    (λ depth r j m. record { least = λ e y m x j v lt. in_none j }) depth room
calm L t q (full {s} {w} b p d) = λ z o depth c ns ne at room few i h g.
    let l = rw (append_assoc s (w ++ closing b ∷ []) z, append_assoc w (closing b ∷ []) z) at (like_tail h) in
    container_calm L t q b (tree_of d 0 0 (at + 1 + length s)) (at + length s + length w + 2) c ns ne at g (like_here h)
    (λ e y m x j v. omega (arith, low L t d (under c) e y m x (at + 1 + length s) j v)) (λ e y m x j v. low L t (full b p d) c e y m x ns ne at j v)
    (λ depth r j m. inside_calm L t q b depth c d z at (omega arith) p l
    (λ k. calm L t q d z depth (suc (length t)) (under c) (at + 1 + length s) r (omega arith) (omega arith) k (like_skip s l) NamesSpell.no_more)) depth room
calm L t q (element d) = λ s o depth c at room few i h. calm L t q d s o depth c 0 0 at room few i h (no_names L t q c.beside)
calm L t q (member {m = v} {s} {r} {w} g p o d) = λ z b depth c at room few i h.
    let l = rw (glue_end 58 v s r w z) at h in
    let lw = like_skip r (like_tail (like_skip s (like_skip v l))) in
    record {
      least = λ e f m x j y lt.
          rw (quote_first L t (value_at L t depth) c.beside at c.after)
          (member_time L t q depth c at i v s r w z p o d l
          (λ names k. calm L t q d z b depth c (at + 1) (at + length v - 1) (at + length v + length s + 1 + length r) room few k lw names) e f m x j y lt
          (quoted_at t at) refl ((string_exact t).told at i) ((string_exact t).follow q at v (s ++ 58 ∷ (r ++ (w ++ z))) i g tt l) (low L t d c e f m x (at + 1) _ _ j y));
    }
calm L t q (one {v} {s} {b} d p) = λ r depth turns c at room few e i h names.
    let l = rw (append_assoc v s (closing b ∷ r)) at h in
    record {
      least = λ a f m x j y lt.
          turn (InTime m x) L t b depth turns at c.after c.beside e i
          (λ left u. time_after t (closing b) c.beside _ ((calm L t q d (s ++ closing b ∷ r) (space_behind (closing b ∷ r) p (close b)) depth c at room few i l).least a f m x j y lt));
    }
calm L t q (comma {v} {s} {r = r} {w} {b} d p o f) = λ z depth turns c at room few e i h names.
    let l = rw (glue_end 44 v s r w (closing b ∷ z)) at h in
    let lv = like_skip v l in
    let lw = like_skip r (like_tail (like_skip s lv)) in
    let behind-v = space_behind (44 ∷ (r ++ (w ++ closing b ∷ z))) p a-comma in
    comma_calm L t q b depth turns c at s r (w ++ closing b ∷ z) (at + length v) (tree_of d 0 0 at) (tree_of f 0 0 (at + length v + length s + 1 + length r)) room e i p o
    (lead-first f (closing b ∷ z)).dark lv
    (λ a g m x. low L t f (behind c (tree_of d 0 0 at)) a g m x (at + length v + length s + 1 + length r))
    (calm L t q d (s ++ 44 ∷ (r ++ (w ++ closing b ∷ z))) behind-v depth c at room few i l)
    (follow L t q d (s ++ 44 ∷ (r ++ (w ++ closing b ∷ z))) behind-v depth c at room few i l names)
    (λ left y u a j m read.
    let both = names_join t names (item_names L t depth b c at i read) in
    rw a (calm L t q f z depth left (behind c (tree_of d 0 0 at)) (at + length v + length s + 1 + length r) room m (omega arith) (omega arith) lw both))
