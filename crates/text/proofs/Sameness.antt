-- Sameness of documents (specs/Sameness.antt) is an equivalence, if the relations of tokens and of labels are.
--     same_refl, same-sym, same-trans       the laws
--     loosen                                from finer relations to coarser ones, and to a looser order of members
--     same-equal, matched-equal             all as written and the order counted: that is equality
--     value-refl, value-sym, value-trans    the laws of `SameValue`
--     written-value, ordered-value          what is the same as written, or in order, is the same value
-- Assumes nothing.
use Prim.Native.Nat.{ℕ}
use native.Mathlib.Omega.{arith}
use mathlib.Core.Path.{◌≡◌, refl, sym, ap, ◌∙◌}
use mathlib.Core.List.{List, []}
use lib.ListN.{length}
use mathlib.Core.Logic.{◌↔◌}
use Rattle.text.specs.Text.{bytes}
use Rattle.text.specs.Strings.{content_of}
use Rattle.text.specs.Doc.{Name, Doc, scalar, array, object, Members, empty, member}
use Rattle.text.specs.Sameness.{MemberOrder, counted, free, Taken, at_head, in_tail, Corresponds, scalars, arrays, objects, Matched, nothing, match, EqualToken, EqualLabel, EqualContent, AnyLabel, SameValue}

-- a relation of tokens, and one of labels
abbrev pub Tokens : Type 1
Tokens = (kind : ℕ) → (token : List ℕ) → (other-kind : ℕ) → (other : List ℕ) → Type 0

abbrev pub Labels : Type 1
Labels = (label other : List ℕ) → Type 0

-- both are equivalences
pub record Equivalence (T : Tokens) (N : Labels) : Type 0 where
  pub token_refl : (k : ℕ) (w : List ℕ) → T k w k w
  pub token_sym : {k k' : ℕ} {w w' : List ℕ} → T k w k' w' → T k' w' k w
  pub token_trans : {k k' k'' : ℕ} {w w' w'' : List ℕ} → T k w k' w' → T k' w' k'' w'' → T k w k'' w''
  pub label_refl : (l : List ℕ) → N l l
  pub label_sym : {l l' : List ℕ} → N l l' → N l' l
  pub label_trans : {l l' l'' : List ℕ} → N l l' → N l' l'' → N l l''

-- ---- members that are taken out ----

-- of two, either may be the first
taken_swap : {n m : Name} {l k : List ℕ} {d e : Doc} {ms ns rest : Members} → Taken n l d free ms ns → Taken m k e free ns rest
    → (ls : Members) × Taken m k e free ms ls × Taken n l d free ls rest
taken_swap {n} {l = l} {d = d} {rest = rest} at_head y = (member n l d rest, in_tail y, at_head)
taken_swap (in_tail {ns = ms} x) at_head = (ms, at_head, x)
taken_swap (in_tail {m = a} {l = b} {e = c} x) (in_tail y) = let (ls, p, q) = taken_swap x y in (member a b c ls, in_tail p, in_tail q)

-- where the order counts it is the first
taken_first : {o : MemberOrder} {n : Name} {l : List ℕ} {d : Doc} {ms rest : Members} → Taken n l d o ms rest → o ≡ counted → ms ≡ member n l d rest
taken_first at_head e = refl
taken_first (in_tail x) e = let z : ◌≡◌ {A = ℕ} 0 1 = cc in absurd (omega arith)

module _ (T : Tokens) (N : Labels) (i : MemberOrder) where
  -- a member more on both sides
  put_back : {n : Name} {l l' : List ℕ} {d e : Doc} {o v : MemberOrder} {ms ns rest : Members} → Taken n l d o ms rest → N l l' → Corresponds T N i v d e
      → Matched T N i o v rest ns → Matched T N i o v ms (member n l' e ns)
  put_back at_head q s m = match at_head q s m
  put_back (in_tail x) q s (match y r u m) = match (in_tail y) r u (put_back x q s m)

  -- the match of a member that is taken out
  record Match (o v : MemberOrder) (n : Name) (l : List ℕ) (d : Doc) (rest ns : Members) : Type 0 where
    label : List ℕ
    value : Doc
    left : Members
    out : Taken n label value o ns left
    labels : N l label
    same : Corresponds T N i v d value
    others : Matched T N i o v rest left

  match_of : {n : Name} {l : List ℕ} {d : Doc} {o v : MemberOrder} {ms ns rest : Members} → Taken n l d o ms rest → Matched T N i o v ms ns → Match o v n l d rest ns
  match_of at_head (match {label' = l} {e = e} {rest = rest} y q s m) = record { label = l; value = e; left = rest; out = y; labels = q; same = s; others = m }
  match_of (in_tail x) (match y q s m) =
      let r = match_of x m in
      let (ls, p, z) = taken_swap y r.out in
      record { label = r.label; value = r.value; left = ls; out = p; labels = r.labels; same = r.same; others = match z q s r.others }

  -- ---- the laws ----

  module _ (E : Equivalence T N) where
    mutual
      pub same_refl : (d : Doc) (o : MemberOrder) → Corresponds T N i o d d
      same_refl (scalar k w) o = scalars (E.token_refl k w)
      same_refl (array ms) o = arrays (matched_refl ms counted i)
      same_refl (object ms) o = objects (matched_refl ms o o)

      matched_refl : (ms : Members) (o v : MemberOrder) → Matched T N i o v ms ms
      matched_refl empty o v = nothing
      matched_refl (member n l d ms) o v = match at_head (E.label_refl l) (same_refl d v) (matched_refl ms o v)

    mutual
      pub same_sym : {o : MemberOrder} {d e : Doc} → Corresponds T N i o d e → Corresponds T N i o e d
      same_sym (scalars t) = scalars (E.token_sym t)
      same_sym (arrays m) = arrays (matched_sym m)
      same_sym (objects m) = objects (matched_sym m)

      matched_sym : {o v : MemberOrder} {ms ns : Members} → Matched T N i o v ms ns → Matched T N i o v ns ms
      matched_sym nothing = nothing
      matched_sym (match x q s m) = put_back x (E.label_sym q) (same_sym s) (matched_sym m)

    mutual
      pub same_trans : {o : MemberOrder} {d e f : Doc} → Corresponds T N i o d e → Corresponds T N i o e f → Corresponds T N i o d f
      same_trans (scalars t) (scalars u) = scalars (E.token_trans t u)
      same_trans (arrays m) (arrays k) = arrays (matched_trans m k)
      same_trans (objects m) (objects k) = objects (matched_trans m k)

      matched_trans : {o v : MemberOrder} {ms ns ls : Members} → Matched T N i o v ms ns → Matched T N i o v ns ls → Matched T N i o v ms ls
      matched_trans nothing k = k
      matched_trans (match x q s m) k =
          let r = match_of x k in
          match r.out (E.label_trans q r.labels) (same_trans s r.same) (matched_trans m r.others)

-- ---- finer and coarser ----

-- the second order asks no more than the first
pub data Looser : MemberOrder → MemberOrder → Type 0 where
  alike : {o : MemberOrder} → Looser o o
  freely : {o : MemberOrder} → Looser o free

-- the second relations ask no more than the first
pub record Coarser (T : Tokens) (N : Labels) (T' : Tokens) (N' : Labels) : Type 0 where
  pub tokens : {k k' : ℕ} {w w' : List ℕ} → T k w k' w' → T' k w k' w'
  pub labels : {l l' : List ℕ} → N l l' → N' l l'

taken_looser : {o o' : MemberOrder} {n : Name} {l : List ℕ} {d : Doc} {ms rest : Members} → Taken n l d o ms rest → Looser o o' → Taken n l d o' ms rest
taken_looser x alike = x
taken_looser at_head freely = at_head
taken_looser (in_tail x) freely = in_tail x

module _ (T : Tokens) (N : Labels) (T' : Tokens) (N' : Labels) (C : Coarser T N T' N') (i j : MemberOrder) (l : Looser i j) where
  mutual
    pub loosen : {o : MemberOrder} {d e : Doc} → Corresponds T N i o d e → (p : MemberOrder) → Looser o p → Corresponds T' N' j p d e
    loosen (scalars t) p h = scalars (C.tokens t)
    loosen (arrays m) p h = arrays (loosen_all m counted j alike l)
    loosen (objects m) p h = objects (loosen_all m p p h h)

    loosen_all : {o v : MemberOrder} {ms ns : Members} → Matched T N i o v ms ns → (p u : MemberOrder) → Looser o p → Looser v u → Matched T' N' j p u ms ns
    loosen_all nothing p u h k = nothing
    loosen_all (match x q s m) p u h k = match (taken_looser x h) (C.labels q) (loosen s u k) (loosen_all m p u h k)

-- ---- all as written ----

pub equal_tokens : Equivalence EqualToken EqualLabel
equal_tokens =
    record {
      token_refl = λ k w. record { kinds = refl; tokens = refl };
      token_sym = λ h. record { kinds = sym h.kinds; tokens = sym h.tokens };
      token_trans = λ g h. record { kinds = g.kinds ∙ h.kinds; tokens = g.tokens ∙ h.tokens };
      label_refl = λ l. refl;
      label_sym = λ e. sym e;
      label_trans = λ e f. e ∙ f;
    }

mutual
  same_eq : {o : MemberOrder} {d e : Doc} → Corresponds EqualToken EqualLabel counted o d e → o ≡ counted → d ≡ e
  same_eq (scalars t) h = rw (t.kinds, t.tokens)
  same_eq (arrays m) h = ap array (matched_eq m refl refl)
  same_eq (objects m) h = ap object (matched_eq m h h)

  matched_eq : {o v : MemberOrder} {ms ns : Members} → Matched EqualToken EqualLabel counted o v ms ns → o ≡ counted → v ≡ counted → ms ≡ ns
  matched_eq nothing h k = refl
  matched_eq (match x q s m) h k = rw (taken_first x h, q, same_eq s k, matched_eq m h k)

-- with the order counted it is equality
pub same_equal : (d e : Doc) → Corresponds EqualToken EqualLabel counted counted d e ↔ (d ≡ e)
same_equal d e = (λ s. same_eq s refl, λ h. rw h (same_refl EqualToken EqualLabel counted equal_tokens e counted))

pub matched_equal : (ms ns : Members) → Matched EqualToken EqualLabel counted counted counted ms ns ↔ (ms ≡ ns)
matched_equal ms ns = (λ m. matched_eq m refl refl, λ h. rw h (matched_refl EqualToken EqualLabel counted equal_tokens ns counted counted))

-- ---- strings decoded, all else as written ----

pub content_tokens : Equivalence EqualContent AnyLabel
content_tokens =
    record {
      token_refl = λ k w. record { kinds = refl; strings = λ e. refl; others = λ e. refl };
      token_sym =
          λ h.
          record {
            kinds = sym h.kinds;
            strings = λ e. sym (h.strings (h.kinds ∙ e));
            others = λ ne. sym (h.others (λ e. ne (sym h.kinds ∙ e)));
          };
      token_trans =
          λ g h.
          record {
            kinds = g.kinds ∙ h.kinds;
            strings = λ e. g.strings e ∙ h.strings (sym g.kinds ∙ e);
            others = λ ne. g.others ne ∙ h.others (λ e. ne (g.kinds ∙ e));
          };
      label_refl = λ l. tt;
      label_sym = λ e. tt;
      label_trans = λ e f. tt;
    }

module _ (o : MemberOrder) where
  pub value_refl : (d : Doc) → SameValue o d d
  value_refl d = same_refl EqualContent AnyLabel o content_tokens d o

  pub value_sym : {d e : Doc} → SameValue o d e → SameValue o e d
  value_sym s = same_sym EqualContent AnyLabel o content_tokens s

  pub value_trans : {d e f : Doc} → SameValue o d e → SameValue o e f → SameValue o d f
  value_trans s u = same_trans EqualContent AnyLabel o content_tokens s u

-- what is the same as written is the same value
pub written_value : {i o : MemberOrder} {d e : Doc} → Corresponds EqualToken EqualLabel i o d e → SameValue free d e
written_value {i} s = loosen EqualToken EqualLabel EqualContent AnyLabel coarser i free freely s free freely
  where
    coarser : Coarser EqualToken EqualLabel EqualContent AnyLabel
    coarser = record { tokens = λ h. record { kinds = h.kinds; strings = λ e. ap content_of h.tokens; others = λ ne. h.tokens }; labels = λ e. tt }

-- the same value with the order counted is one with the order not counted
pub ordered_value : {d e : Doc} → SameValue counted d e → SameValue free d e
ordered_value s = loosen EqualContent AnyLabel EqualContent AnyLabel (record { tokens = λ h. h; labels = λ e. e }) counted free freely s free freely

-- ---- specimens; of strings see `strings_same` (proofs/Telling.antt) ----

-- two items, without and with names
abbrev pair : (n m : Name) → (first second : Doc) → Members
pair n m d e = member n n d (member m m e empty)

abbrev numeral : Name → Doc
numeral w = scalar 4 w

-- numbers are the same as written only
number_other : (o : MemberOrder) → SameValue o (numeral (bytes "1")) (numeral (bytes "1.0")) → ⊥
number_other o (scalars t) = let z : ◌≡◌ {A = ℕ} 1 3 = ap length (t.others (λ (e : 4 ≡ 5). omega arith)) in omega arith

-- members may change places where their order is not counted
swapped : (d e : Doc) → SameValue free (object (pair (bytes "a") (bytes "b") d e)) (object (pair (bytes "b") (bytes "a") e d))
swapped d e = objects (match (in_tail at_head) tt (value_refl free d) (match at_head tt (value_refl free e) nothing))

-- entries never may
entries_stay : (o : MemberOrder) → SameValue o (array (pair [] [] (numeral (bytes "1")) (numeral (bytes "1.0")))) (array (pair [] [] (numeral (bytes "1.0")) (numeral (bytes "1")))) → ⊥
entries_stay o (arrays (match at_head q s m)) = number_other o s
