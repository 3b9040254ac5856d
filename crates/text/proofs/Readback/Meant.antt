-- A text of the grammar whose document is writable is accepted within the limits, if no name is refused for standing twice: its strings and names
-- spell (`writable_accepts`). Where the document's names are distinct, no name of the text stands twice (`new_in`). Assumes nothing.
use mathlib.Core.Path.{◌≡◌, refl, sym, subst, ◌∙◌}
use mathlib.Core.List.{List, [], ◌∷◌, ◌++◌}
use mathlib.Core.Bool.{false, true≢false}
use mathlib.Core.Option.{none}
use mathlib.Core.Logic.{◌⊎◌, inl, inr, ⊎_elim}
use Prim.Native.Nat.{ℕ, ◌+◌, ◌-◌, ◌≤◌, ◌<◌}
use native.Mathlib.Omega.{arith}
use lib.ListN.{length}
use Rattle.laws.specs.Lists.{part_of}
use Rattle.laws.specs.Order.{same}
use Rattle.laws.proofs.Orders.{eq_same}
use Rattle.text.specs.Limits.{Limits}
use Rattle.text.specs.Strings.{name_of}
use Rattle.text.specs.Spelling.{Spells, utf8s}
use Rattle.text.specs.Reader.{named}
use Rattle.text.specs.Tree.{Bracket, square, curly, Forest, leaf, node, join, size}
use Rattle.text.specs.Tree as T
use Rattle.text.specs.Seats.{Head, Seat, Sits, Named}
use Rattle.text.specs.Placed.{Quoted}
use Rattle.text.specs.Grammar.{Phrase, value, item, items, Is, simple, empty, full, element, member, one, comma, JsonText, json_text, tree_of, root_of, depth_of}
use Rattle.text.specs.Doc.{Name, Doc, Members, boxed, label_at, members_of, seek}
use Rattle.text.specs.Distinct.{Distinct}
use Rattle.text.specs.Labels.{Labelled}
use Rattle.text.specs.Writable.{Lexeme, Lexical}
use Rattle.text.specs.Meaning.{Accepts}
use Rattle.text.proofs.Labels.{EveryIn, LabelIn, every_inside, every_parts}
use Rattle.text.proofs.Documents.{DistinctIn, label_part, seek_name, seek_later}
use Rattle.text.proofs.Spelling.Decoded.{decode_spelled}
use Rattle.text.proofs.Grammar.Stands.{clash}
use Rattle.text.proofs.Grammar.Trees.{join_none, join_assoc}
use Rattle.text.proofs.Grammar.Wrong.{no_string}
use Rattle.text.proofs.Grammar.Names.{there_named}
use Rattle.text.proofs.Readback.Runs.{part_quoted}
use Rattle.text.proofs.Readback.Says.{text_doc, text_members}

-- ---- in an array no value has a name's place ----

abbrev Nameless : Bracket → ℕ → Type 0
Nameless square ns = ns ≡ 0
Nameless curly ns = Prim.Unit {0}

abbrev NamelessIn : Bracket → Forest → Type 0
NamelessIn b T.none = Prim.Unit {0}
NamelessIn b (leaf kind ns ne from to rest) = Nameless b ns × NamelessIn b rest
NamelessIn b (node c ns ne from to inside rest) = Nameless b ns × NamelessIn c inside × NamelessIn b rest

-- the values of a part, before others
abbrev NamelessBy : Phrase → (ℕ → Forest → Forest) → Type 0
NamelessBy value f = (b : Bracket) (ns : ℕ) (g : Forest) → Nameless b ns → NamelessIn b g → NamelessIn b (f ns g)
NamelessBy (item b) f = (ns : ℕ) (g : Forest) → NamelessIn b g → NamelessIn b (f ns g)
NamelessBy (items b) f = (ns : ℕ) (g : Forest) → NamelessIn b g → NamelessIn b (f ns g)

tree_nameless : {a : Phrase} {w : List ℕ} (d : Is a w) (ne at : ℕ) → NamelessBy a (λ ns g. join (tree_of d ns ne at) g)
unfolding tree_of join
tree_nameless (simple k l) ne at = λ b ns g n h. (n, h)
tree_nameless (empty c p) ne at = λ b ns g n h. (n, tt, h)
tree_nameless (full {s} c p d) ne at =
    let to = at + 1 + length s in
    λ b ns g n h. (n, subst (NamelessIn c) (join_none (tree_of d 0 0 to)) (tree_nameless d 0 to 0 T.none tt), h)
tree_nameless (element d) ne at = λ ns g h. tree_nameless d 0 at square 0 g refl h
tree_nameless (member {m} {s} {r} c p o d) ne at = λ ns g h. tree_nameless d (at + length m - 1) (at + length m + length s + 1 + length r) curly (at + 1) g tt h
tree_nameless (one d p) ne at = λ ns g h. tree_nameless d 0 at 0 g h
tree_nameless (comma {v} {s} {r} {b = b} d p o e) ne at =
    let to = at + length v + length s + 1 + length r in
    λ ns g h. subst (NamelessIn b) (sym (join_assoc (tree_of d 0 0 at) (tree_of e 0 0 to) g)) (tree_nameless d 0 at 0 (join (tree_of e 0 0 to) g) (tree_nameless e 0 to 0 g h))

-- the root has none
pub root_nameless : {t : List ℕ} (d : JsonText t) → NamelessIn square (root_of d)
unfolding root_of
root_nameless (json_text {s} p d o) = subst (NamelessIn square) (join_none (tree_of d 0 0 (length s))) (tree_nameless d 0 (length s) square 0 T.none refl tt)

module _ (t : List ℕ) where
  -- ---- strings and names spell ----

  token_quoted : {kind : ℕ} {token : List ℕ} (from to : ℕ) → Lexeme kind token → part_of t from to ≡ token → kind ≡ 5 → Quoted t (from + 1) (to - 1)
  token_quoted from to Lexeme.null e k = absurd (omega arith)
  token_quoted from to Lexeme.falsity e k = absurd (omega arith)
  token_quoted from to Lexeme.truth e k = absurd (omega arith)
  token_quoted from to (Lexeme.number n) e k = absurd (omega arith)
  token_quoted from to (Lexeme.string {w} {codes} s) e k = part_quoted t from to w codes e s

  strings_in : {c d : Seat} {h : Head} {f : Forest} (b : Bracket) → EveryIn Labelled Lexeme b (members_of t f) → Sits c f d h → h.kind ≡ 5 → Quoted t (h.from + 1) (h.to - 1)
  unfolding members_of
  strings_in b e (Sits.leaf_here {from = from} {to = to} {rest = rest}) k = token_quoted from to (every_parts Labelled Lexeme b _ _ _ (members_of t rest) e).1 refl k
  strings_in b e (Sits.node_here {b = c}) k = absurd (no_string c k)
  strings_in b e (Sits.into {b = c} {inner = inner} {rest = rest} i) k =
      strings_in c (every_inside Labelled Lexeme c (members_of t inner) (every_parts Labelled Lexeme b _ _ _ (members_of t rest) e).1) i k
  strings_in b e (Sits.leaf_on {rest = rest} i) k = strings_in b (every_parts Labelled Lexeme b _ _ _ (members_of t rest) e).2 i k
  strings_in b e (Sits.node_on {rest = rest} i) k = strings_in b (every_parts Labelled Lexeme b _ _ _ (members_of t rest) e).2 i k

  label_quoted : (ns ne : ℕ) → 0 < ns → Labelled (name_of t ns ne) (label_at t ns ne) → Quoted t ns ne
  label_quoted ns ne h l =
      let back : ns - 1 + 1 ≡ ns = omega arith in
      let last : ne + 1 - 1 ≡ ne = omega arith in
      let part : part_of t (ns - 1) (ne + 1) ≡ 34 ∷ l.inside ++ (34 ∷ []) = sym (label_part t ns ne h) ∙ l.quoted in
      rw (back, last) at (part_quoted t (ns - 1) (ne + 1) l.inside l.codes part l.spells)

  name_quoted : (b : Bracket) (ns ne : ℕ) → Nameless b ns → LabelIn Labelled b (name_of t ns ne) (label_at t ns ne) → 0 < ns → Quoted t ns ne
  name_quoted square ns ne n l h = absurd (omega arith)
  name_quoted curly ns ne n l h = label_quoted ns ne h l

  names_in_lem : {c d : Seat} {h : Head} {f : Forest} (b : Bracket) → NamelessIn b f → EveryIn Labelled Lexeme b (members_of t f) → Sits c f d h → 0 < h.ns → Quoted t h.ns h.ne
  unfolding members_of
  names_in_lem b n e (Sits.leaf_here {ns = ns} {ne = ne} {rest = rest}) k = name_quoted b ns ne n.0 (every_parts Labelled Lexeme b _ _ _ (members_of t rest) e).0 k
  names_in_lem b n e (Sits.node_here {ns = ns} {ne = ne} {rest = rest}) k = name_quoted b ns ne n.0 (every_parts Labelled Lexeme b _ _ _ (members_of t rest) e).0 k
  names_in_lem b n e (Sits.into {b = c} {inner = inner} {rest = rest} i) k =
      names_in_lem c n.1 (every_inside Labelled Lexeme c (members_of t inner) (every_parts Labelled Lexeme b _ _ _ (members_of t rest) e).1) i k
  names_in_lem b n e (Sits.leaf_on {rest = rest} i) k = names_in_lem b n.1 (every_parts Labelled Lexeme b _ _ _ (members_of t rest) e).2 i k
  names_in_lem b n e (Sits.node_on {rest = rest} i) k = names_in_lem b n.2 (every_parts Labelled Lexeme b _ _ _ (members_of t rest) e).2 i k

  -- ---- names are new ----

  named_none : {A : Type 0} {codes : List ℕ} → Named t codes T.none → A
  unfolding named
  named_none h = clash false (there_named t h) refl

  named_join : {codes : List ℕ} (f g : Forest) → Named t codes (join f g) → Named t codes f ⊎ Named t codes g
  unfolding join
  named_join T.none g h = inr h
  named_join (leaf kind ns ne from to rest) g (Named.leaf_here e) = inl (Named.leaf_here e)
  named_join (leaf kind ns ne from to rest) g (Named.leaf_on h) = ⊎_elim (λ x. inl (Named.leaf_on x)) (λ x. inr x) (named_join rest g h)
  named_join (node b ns ne from to inside rest) g (Named.node_here e) = inl (Named.node_here e)
  named_join (node b ns ne from to inside rest) g (Named.node_on h) = ⊎_elim (λ x. inl (Named.node_on x)) (λ x. inr x) (named_join rest g h)

  leaf_named_lem : {codes : List ℕ} {kind ns ne from to : ℕ} → Named t codes (leaf kind ns ne from to T.none) → name_of t ns ne ≡ utf8s codes
  leaf_named_lem (Named.leaf_here s) = decode_spelled s
  leaf_named_lem (Named.leaf_on h) = named_none h

  node_named_lem : {codes : List ℕ} {b : Bracket} {ns ne from to : ℕ} {inside : Forest} → Named t codes (node b ns ne from to inside T.none) → name_of t ns ne ≡ utf8s codes
  node_named_lem (Named.node_here s) = decode_spelled s
  node_named_lem (Named.node_on h) = named_none h

  -- in an object: no member has the name of one of these values
  abbrev Fresh : Bracket → (before : Forest) → Members → Type 0
  Fresh square before ms = Prim.Unit {0}
  Fresh curly before ms = (codes : List ℕ) → Named t codes before → seek (utf8s codes) ms ≡ none

  module _ (n : Name) (label : List ℕ) (d : Doc) (ms : Members) where
    fresh_not : (b : Bracket) (before : Forest) → Fresh b before (Members.member n label d ms) → (ns : ℕ) → Nameless b ns → 0 < ns
        → (codes : List ℕ) → n ≡ utf8s codes → Named t codes before → ⊥
    fresh_not square before f ns z k codes e h = omega arith
    fresh_not curly before f ns z k codes e h = clash (same n (utf8s codes)) (eq_same n (utf8s codes) e) (seek_name t (utf8s codes) n label d ms (f codes h))

    fresh_on : (b : Bracket) (before this : Forest) → ((codes : List ℕ) → Named t codes this → n ≡ utf8s codes) → DistinctIn b (Members.member n label d ms)
        → Fresh b before (Members.member n label d ms) → Fresh b (join before this) ms
    fresh_on square before this o e f = tt
    fresh_on curly before this o e f =
        λ codes h. ⊎_elim (λ x. seek_later t (utf8s codes) n label d ms (f codes x)) (λ x. rw (← o codes x) e.0) (named_join before this h)

    distinct_first : (b : Bracket) → DistinctIn b (Members.member n label d ms) → Distinct d
    distinct_first square e = e.0
    distinct_first curly e = e.1

    distinct_rest : (b : Bracket) → DistinctIn b (Members.member n label d ms) → DistinctIn b ms
    distinct_rest square e = e.1
    distinct_rest curly e = e.2

  box_distinct : (c : Bracket) (ms : Members) → Distinct (boxed c ms) → DistinctIn c ms
  box_distinct square ms e = e
  box_distinct curly ms e = e

  none_fresh : (b : Bracket) (ms : Members) → Fresh b T.none ms
  none_fresh square ms = tt
  none_fresh curly ms = λ codes h. named_none h

  pub new_in : {c d : Seat} {h : Head} {f : Forest} (b : Bracket) → NamelessIn b f → DistinctIn b (members_of t f) → Fresh b c.beside (members_of t f)
      → Sits c f d h → 0 < h.ns → (codes : List ℕ) → Spells (part_of t h.ns h.ne) codes → Named t codes d.beside → ⊥
  unfolding members_of
  new_in {c} b n e f (Sits.leaf_here {ns = ns} {ne = ne} {rest = rest}) k codes s m =
      fresh_not (name_of t ns ne) (label_at t ns ne) _ (members_of t rest) b c.beside f ns n.0 k codes (decode_spelled s) m
  new_in {c} b n e f (Sits.node_here {ns = ns} {ne = ne} {rest = rest}) k codes s m =
      fresh_not (name_of t ns ne) (label_at t ns ne) _ (members_of t rest) b c.beside f ns n.0 k codes (decode_spelled s) m
  new_in b n e f (Sits.into {b = c} {ns = ns} {ne = ne} {inner = inner} {rest = rest} i) k codes s m =
      new_in c n.1 (box_distinct c (members_of t inner) (distinct_first (name_of t ns ne) (label_at t ns ne) _ (members_of t rest) b e)) (none_fresh c (members_of t inner)) i k codes s m
  new_in {c} b n e f (Sits.leaf_on {kind = kind} {ns = ns} {ne = ne} {from = from} {to = to} {rest = rest} i) k codes s m =
      new_in b n.1 (distinct_rest (name_of t ns ne) (label_at t ns ne) _ (members_of t rest) b e)
      (fresh_on (name_of t ns ne) (label_at t ns ne) _ (members_of t rest) b c.beside (leaf kind ns ne from to T.none) (λ codes x. leaf_named_lem x) e f) i k codes s m
  new_in {c} b n e f (Sits.node_on {b = o} {ns = ns} {ne = ne} {from = from} {to = to} {inner = inner} {rest = rest} i) k codes s m =
      new_in b n.2 (distinct_rest (name_of t ns ne) (label_at t ns ne) _ (members_of t rest) b e)
      (fresh_on (name_of t ns ne) (label_at t ns ne) _ (members_of t rest) b c.beside (node o ns ne from to inner T.none) (λ codes x. node_named_lem x) e f) i k codes s m

  -- ---- the theorem ----

  module _ (L : Limits) (d : JsonText t) (h : Lexical (text_doc d)) (u : L.unique ≡ false) where
    pub writable_accepts : length t ≤ L.bytes → depth_of (root_of d) ≤ L.depth → size (root_of d) ≤ L.values → Accepts L t (root_of d)
    writable_accepts short shallow few =
        let n = root_nameless d in
        let e : EveryIn Labelled Lexeme square (members_of t (root_of d)) = rw (text_members d) (record { nameless = refl; unwritten = refl }, h, tt) in
        record {
          derives = d;
          tree = refl;
          strings = λ c s i. strings_in square e i;
          names = λ c s i. names_in_lem square n e i;
          distinct = λ e. absurd (true≢false (sym e ∙ u));
          short = short;
          shallow = shallow;
          few = few;
        }
