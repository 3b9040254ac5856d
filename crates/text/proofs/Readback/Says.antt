-- The document that a derivation says, without places (`text_doc`). It is that of the text and the derivation's tree: `text_doc_lem`, `text_members`.
-- Assumes nothing.
use mathlib.Core.Path.{◌≡◌, refl, sym, ap, ap₂, ◌∙◌}
use mathlib.Core.List.{List, [], ◌∷◌, ◌++◌}
use Prim.Native.Nat.{ℕ, ◌+◌, ◌-◌, ◌≤◌}
use native.Mathlib.Omega.{arith}
use lib.ListN.{length, length-append}
use lib.Seq.{drop-append_seam}
use borrow.Author.Tests.{ne_eqb}
use Rattle.text.specs.Strings.{decode, name_of}
use Rattle.text.specs.Tree.{Forest, none, leaf, node, join}
use Rattle.text.specs.Grammar.{JsonString, quoted, simple_kind, opening, Phrase, value, Is, simple, empty, full, element, member, one, comma, JsonText, json_text, tree_of, root_of, closing}
use Rattle.text.specs.Doc.{Name, Doc, scalar, array, Members, boxed, label_at, members_of, doc_of}
use Rattle.text.proofs.Labels.{no_label}
use Rattle.text.proofs.Readback.Runs.{BytesAt, at_left, at_right, at_behind, part_at}
use Rattle.text.proofs.Grammar.Trees.{join_none, join_assoc}

-- ---- what a derivation says ----

abbrev pub inside_of : {m : List ℕ} → JsonString m → List ℕ
inside_of (quoted {w} c) = w

-- its values as members, and the members after them; a value that is no member has the name that is handed in
abbrev pub says : {a : Phrase} {w : List ℕ} → Is a w → Name → (label : List ℕ) → Members → Members
says (simple {w} k l) n label more = Members.member n label (scalar (simple_kind k) w) more
says (empty b p) n label more = Members.member n label (boxed b Members.empty) more
says (full b p d) n label more = Members.member n label (boxed b (says d [] [] Members.empty)) more
says (element d) n label more = says d [] [] more
says (member {m} g p o d) n label more = says d (decode (inside_of g)) m more
says (one d p) n label more = says d [] [] more
says (comma d p o e) n label more = says d [] [] (says e [] [] more)

abbrev pub first_doc : Members → Doc
first_doc Members.empty = array Members.empty
first_doc (Members.member n label d ms) = d

abbrev pub doc_by : {w : List ℕ} → Is value w → Doc
doc_by d = first_doc (says d [] [] Members.empty)

abbrev pub text_doc : {t : List ℕ} → JsonText t → Doc
text_doc (json_text p d o) = doc_by d

-- a value is one member
pub says_value : {w : List ℕ} (d : Is value w) (n : Name) (label : List ℕ) (more : Members) → says d n label more ≡ Members.member n label (doc_by d) more
says_value (simple k l) n label more = refl
says_value (empty b p) n label more = refl
says_value (full b p d) n label more = refl

-- ---- the same document ----

some_quote : {m : List ℕ} → JsonString m → 1 ≤ length m
some_quote (quoted c) = omega arith

module _ (t : List ℕ) where
  -- a name of the grammar
  string_name : {m : List ℕ} (at : ℕ) (g : JsonString m) → BytesAt t at m → name_of t (at + 1) (at + length m - 1) ≡ decode (inside_of g)
  string_name at (quoted {w} c) a =
      let inner : BytesAt t (at + 1) (w ++ 34 ∷ []) = at_right (34 ∷ []) (w ++ 34 ∷ []) (at + 1) a refl in
      ap decode (part_at w (at + length (34 ∷ w ++ 34 ∷ []) - 1) (at_left w (34 ∷ []) inner) (omega (arith, length-append w (34 ∷ []))))

  string_label : {m : List ℕ} (at : ℕ) → JsonString m → BytesAt t at m → label_at t (at + 1) (at + length m - 1) ≡ m
  string_label {m} at g a =
      let s : at + 1 - 1 ≡ at = omega arith in
      let e : at + length m ≡ at + length m - 1 + 1 = omega (arith, some_quote g) in
      rw (ne_eqb (at + 1) 0 (omega arith), s) (part_at m (at + length m - 1 + 1) a e)

  -- the name 0, 0 is none
  says_unnamed : {a : Phrase} {w : List ℕ} (d : Is a w) (more : Members) → says d (name_of t 0 0) (label_at t 0 0) more ≡ says d [] [] more
  says_unnamed d more =
      let n = no_label t {ns = 0} {ne = 0} refl refl in
      ap₂ (λ (name : Name) (label : List ℕ). says d name label more) n.nameless n.unwritten

  -- the members of its tree, and of what follows
  said : {a : Phrase} {w : List ℕ} (d : Is a w) (ns ne at : ℕ) (g : Forest) → BytesAt t at w
      → members_of t (join (tree_of d ns ne at) g) ≡ says d (name_of t ns ne) (label_at t ns ne) (members_of t g)
  unfolding members_of tree_of join
  said (simple {w} k l) ns ne at g a =
      ap (λ (token : List ℕ). Members.member (name_of t ns ne) (label_at t ns ne) (scalar (simple_kind k) token) (members_of t g)) (part_at w (at + length w) a refl)
  said (empty b p) ns ne at g a = refl
  said (full {s} {w} b p d) ns ne at g a =
      let to = at + 1 + length s in
      let i : BytesAt t to w = at_left w (closing b ∷ []) (at_right (opening b ∷ s) (w ++ closing b ∷ []) to a (omega arith)) in
      ap (λ (ms : Members). Members.member (name_of t ns ne) (label_at t ns ne) (boxed b ms) (members_of t g))
      (ap (members_of t) (sym (join_none (tree_of d 0 0 to))) ∙ said d 0 0 to none i ∙ says_unnamed d Members.empty)
  said (element d) ns ne at g a = said d 0 0 at g a ∙ says_unnamed d (members_of t g)
  said (member {m} {s} {r} {w} c p o d) ns ne at g a =
      let to = at + length m + length s + 1 + length r in
      let here : BytesAt t at m = at_left m (s ++ 58 ∷ (r ++ w)) a in
      said d (at + 1) (at + length m - 1) to g (at_behind 58 m s r w to a refl)
      ∙ ap₂ (λ (name : Name) (label : List ℕ). says d name label (members_of t g)) (string_name at c here) (string_label at c here)
  said (one {v} {s} d p) ns ne at g a = said d 0 0 at g (at_left v s a) ∙ says_unnamed d (members_of t g)
  said (comma {v} {s} {r} {w} d p o e) ns ne at g a =
      let to = at + length v + length s + 1 + length r in
      ap (members_of t) (join_assoc (tree_of d 0 0 at) (tree_of e 0 0 to) g)
      ∙ said d 0 0 at (join (tree_of e 0 0 to) g) (at_left v (s ++ 44 ∷ (r ++ w)) a)
      ∙ says_unnamed d (members_of t (join (tree_of e 0 0 to) g))
      ∙ ap (says d [] []) (said e 0 0 to g (at_behind 44 v s r w to a refl) ∙ says_unnamed e (members_of t g))

pub doc_members : (t : List ℕ) (f : Forest) → doc_of t f ≡ first_doc (members_of t f)
unfolding doc_of members_of
doc_members t none = refl
doc_members t (leaf kind ns ne from to rest) = refl
doc_members t (node b ns ne from to inside rest) = refl

module _ (t : List ℕ) {w : List ℕ} (d : Is value w) (at : ℕ) (a : BytesAt t at w) where
  -- one value, without a name
  value_members : members_of t (tree_of d 0 0 at) ≡ Members.member [] [] (doc_by d) Members.empty
  unfolding members_of
  value_members =
      ap (members_of t) (sym (join_none (tree_of d 0 0 at))) ∙ said t d 0 0 at none a ∙ says_unnamed t d Members.empty ∙ says_value d [] [] Members.empty

  pub value_doc : doc_of t (tree_of d 0 0 at) ≡ doc_by d
  value_doc = doc_members t (tree_of d 0 0 at) ∙ ap first_doc value_members

pub text_members : {t : List ℕ} (d : JsonText t) → members_of t (root_of d) ≡ Members.member [] [] (text_doc d) Members.empty
unfolding root_of
text_members (json_text {s} {w} {r} p d o) =
    value_members (s ++ (w ++ r)) d (length s)
    (record { rest = r; there = drop-append_seam s (w ++ r); inside = omega (arith, length-append s (w ++ r), length-append w r) })

pub text_doc_lem : {t : List ℕ} (d : JsonText t) → doc_of t (root_of d) ≡ text_doc d
text_doc_lem {t} d = doc_members t (root_of d) ∙ ap first_doc (text_members d)
