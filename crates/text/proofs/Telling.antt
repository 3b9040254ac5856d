-- A text that is read says one document, white space or not, and that is its `doc_of` (specs/Telling.antt).
--     tells-doc       a text that is read says its document
--     one-telling     a text with its tree says one document
--     tells-iff       so it says just that one
--     strings-same    two strings are the same value exactly if they say the same
--     told-accepted   a text of the grammar that says a document within the limits is accepted
-- Assumes nothing.
use mathlib.Core.Path.{◌≡◌, refl, sym, ap, ap₂, subst, ◌∙◌}
use mathlib.Core.List.{List, [], ◌∷◌, ◌++◌}
use mathlib.Core.Bool.{true}
use mathlib.Core.Logic.{◌↔◌}
use Prim.Native.Nat.{ℕ, ◌+◌, ◌-◌, ◌≤◌, ◌<◌}
use native.Mathlib.Omega.{arith}
use lib.ListN.{length, take, drop, length-append, length-take, take-append-drop}
use lib.Seq.{drop-append_seam}
use Rattle.laws.specs.Lists.{part_of}
use Rattle.laws.proofs.Splits.{part_there, there_part, length_part}
use Rattle.text.specs.Limits.{Limits}
use Rattle.text.specs.Strings.{decode, name_of, content_of}
use Rattle.text.specs.Spelling.{utf8s}
use Rattle.text.specs.Tree.{Bracket, square, curly, Forest, node, size}
use Rattle.text.specs.Reader.{good}
use Rattle.text.specs.Whole.{read_of}
use Rattle.text.specs.Grammar.{JsonText, root_of, depth_of}
use Rattle.text.specs.Seats.{Head, Seat, Sits}
use Rattle.text.specs.Placed.{Quoted, NameIn, TokenIn, Placed}
use Rattle.text.specs.Meaning.{DistinctNames, Accepts}
use Rattle.text.specs.Doc.{Name, Doc, scalar, Members, empty, member, boxed, label_at, members_of, doc_of, count_of}
use Rattle.text.specs.Distinct.{Distinct}
use Rattle.text.specs.Promised.{Promised}
use Rattle.text.specs.Labels.{Labelled}
use Rattle.text.specs.Sameness.{MemberOrder, scalars, EqualContent, SameValue}
use Rattle.text.specs.Telling.{Stretch, NameTold, unnamed, named, TokenTold, as_written, string, TellsAll, nothing, token, entries, members, Tells, tells}
use Rattle.text.specs.Writable.{depth_in}
use Rattle.text.proofs.Spelling.Decoded.{decode_spelled}
use Rattle.text.proofs.Documents.{DistinctIn}
use Rattle.text.proofs.Promise.{promised, content_part, label_part, members_first, members_none, no_name_at}
use Rattle.text.proofs.Labels.{string_part, label_said, no_label}
use Rattle.text.proofs.Grammar.Wrong.{no_string}
use Rattle.text.proofs.Readback.Runs.{part_quoted}
use Rattle.text.proofs.Readback.Says.{first_doc, doc_members}
use Rattle.text.proofs.Readback.Meant.{root_nameless, new_in}
use Rattle.text.proofs.Readback.Sizes.{root_count, root_depth}

-- ---- stretches are parts ----

module _ (t : List ℕ) (from to : ℕ) where
  pub part_stretch : from ≤ to → to ≤ length t → Stretch t from to (part_of t from to)
  part_stretch h k =
      record {
        before = take from t;
        after = drop to t;
        whole = sym (take-append-drop from t) ∙ ap (λ (r : List ℕ). take from t ++ r) (there_part t from to h k);
        starts = simp length-take (omega arith);
        ends = omega (arith, length_part t from to h k);
      }

  pub stretch_inside : {w : List ℕ} → Stretch t from to w → to ≤ length t
  stretch_inside {w} s =
      omega (arith, s.starts, s.ends, ap length s.whole, length-append s.before (w ++ s.after), length-append w s.after)

  pub stretch_part : {w : List ℕ} → Stretch t from to w → part_of t from to ≡ w
  stretch_part {w} s =
      let there : drop from t ≡ w ++ s.after = ap₂ drop (sym s.starts) s.whole ∙ drop-append_seam s.before (w ++ s.after) in
      ap (part_of t from) (sym s.ends) ∙ part_there t from w s.after there (omega (arith, s.ends, stretch_inside s))

-- ---- a label says one name, and that is its content ----

label_long : {n label : List ℕ} (l : Labelled n label) → length label ≡ length l.inside + 2
label_long l = ap length l.quoted ∙ omega (arith, length-append l.inside (34 ∷ []))

pub label_content : {n label : List ℕ} → Labelled n label → content_of label ≡ n
label_content {n} {label} l =
    let s : Stretch label 1 (length label - 1) l.inside =
    record { before = 34 ∷ []; after = 34 ∷ []; whole = l.quoted; starts = refl; ends = omega (arith, label_long l) } in
    ap decode (stretch_part label 1 (length label - 1) s) ∙ decode_spelled l.spells ∙ sym l.says

-- so two strings are the same value exactly if they say the same
pub strings_same : (o : MemberOrder) {n m w u : List ℕ} → Labelled n w → Labelled m u → SameValue o (scalar 5 w) (scalar 5 u) ↔ (n ≡ m)
strings_same o {n} {m} {w} {u} l k = (go, back)
  where
    go : SameValue o (scalar 5 w) (scalar 5 u) → n ≡ m
    go (scalars t) = sym (label_content l) ∙ t.strings refl ∙ label_content k

    back : n ≡ m → SameValue o (scalar 5 w) (scalar 5 u)
    back e =
        let t : EqualContent 5 w 5 u = record { kinds = refl; strings = λ h. label_content l ∙ e ∙ sym (label_content k); others = λ ne. absurd (ne refl) } in
        scalars t

-- ---- a text that is read says its document ----

module _ (t : List ℕ) where
  quoted_told : (ns ne : ℕ) → Quoted t ns ne → NameTold t ns ne (name_of t ns ne) (label_at t ns ne)
  quoted_told ns ne q =
      let f = q.first in
      let back : ns - 1 + 1 ≡ ns = omega arith in
      let s : Stretch t (ns - 1) (ne + 1) (label_at t ns ne) =
      rw (label_part t ns ne f) (part_stretch t (ns - 1) (ne + 1) (omega (arith, q.ordered)) (omega (arith, q.inside))) in
      subst (λ (i : ℕ). NameTold t i ne (name_of t ns ne) (label_at t ns ne)) back (named s (label_said t ns ne q))

  name_told : (b : Bracket) (from ns ne at : ℕ) → NameIn t b from ns ne at → NameTold t ns ne (name_of t ns ne) (label_at t ns ne)
  name_told square from ns ne at n = let u = no_label t n.start n.end in rw (u.nameless, u.unwritten, n.start, n.end) unnamed
  name_told curly from ns ne at n = quoted_told ns ne n.quoted

  plain_told : {kind : ℕ} {w : List ℕ} → kind < 5 → TokenTold kind w
  plain_told {kind} h = as_written (λ (k : kind ≡ 5). omega arith)

  token_told : {kind from to : ℕ} → TokenIn t kind from to → TokenTold kind (part_of t from to)
  token_told (TokenIn.null e) = plain_told (omega arith)
  token_told (TokenIn.falsity e) = plain_told (omega arith)
  token_told (TokenIn.truth e) = plain_told (omega arith)
  token_told (TokenIn.number n) = plain_told (omega arith)
  token_told (TokenIn.string {from} {to} q) =
      let l : Labelled (utf8s q.codes) (part_of t from to) =
      record { inside = part_of t (from + 1) (to - 1); codes = q.codes; quoted = string_part t from to q; spells = q.spells; says = refl } in
      string l (label_content l)

  box_told : (c : Bracket) {ns ne from to : ℕ} {inside rest : Forest} {n : Name} {label : List ℕ} {es ms : Members} → NameTold t ns ne n label
      → TellsAll t inside es → TellsAll t rest ms → TellsAll t (node c ns ne from to inside rest) (member n label (boxed c es) ms)
  box_told square n i r = entries n i r
  box_told curly n i r = members n i r

  placed_told : {b : Bracket} {f : Forest} {from to : ℕ} → Placed t b f from to → TellsAll t f (members_of t f)
  unfolding members_of
  placed_told (Placed.nothing k) = nothing
  placed_told {b} {f} {from} (Placed.token {ns = ns} {ne = ne} {at = at} {end = end} s k p) =
      token (name_told b from ns ne at s.name) (part_stretch t at end (omega (arith, s.some)) s.inside) (token_told k) (placed_told p)
  placed_told {b} {f} {from} (Placed.box {c = c} {ns = ns} {ne = ne} {at = at} s k i p) =
      box_told c (name_told b from ns ne at s.name) (placed_told i) (placed_told p)

  -- one value, without a name
  root_members : (L : Limits) (f : Forest) → Promised L t f → members_of t f ≡ member [] [] (doc_of t f) empty
  root_members L f p =
      let n = no_name_at p.placed p.some in
      let u = no_label t n.start n.end in
      rw (members_first t f p.some, u.nameless, u.unwritten, p.alone, members_none t)

pub tells_doc : (L : Limits) (t : List ℕ) (f : Forest) (to : ℕ) → read_of L t ≡ good f to → Tells t f (doc_of t f)
tells_doc L t f to e =
    let p = promised L t f to e in
    tells (subst (TellsAll t f) (root_members t L f p) (placed_told t p.placed))

-- ---- a text says one document ----

module _ (t : List ℕ) where
  record IsName (ns ne : ℕ) (n label : List ℕ) : Type 0 where
    name : n ≡ name_of t ns ne
    written : label ≡ label_at t ns ne

  told_name : {ns ne : ℕ} {n label : List ℕ} → NameTold t ns ne n label → IsName ns ne n label
  told_name unnamed = let u = no_label t {ns = 0} {ne = 0} refl refl in record { name = sym u.nameless; written = sym u.unwritten }
  told_name (named {i} {e} {n} {label} s l) =
      let part : part_of t i (e + 1) ≡ label = stretch_part t i (e + 1) s in
      let k : i + 1 < e + 1 = omega (arith, s.ends, label_long l) in
      let last : e + 1 - 1 ≡ e = omega arith in
      let first : i + 1 - 1 ≡ i = omega arith in
      record {
        name = sym (label_content l) ∙ ap content_of (sym part) ∙ content_part t i (e + 1) k (stretch_inside t i (e + 1) s) ∙ ap (name_of t (i + 1)) last;
        written = sym part ∙ ap (λ (j : ℕ). part_of t j (e + 1)) (sym first) ∙ sym (label_part t (i + 1) e (omega arith));
      }

  pub told_members : {f : Forest} {ms : Members} → TellsAll t f ms → ms ≡ members_of t f
  unfolding members_of
  told_members nothing = refl
  told_members (token {from = from} {to = to} n s k r) = let h = told_name n in rw (h.name, h.written, stretch_part t from to s, told_members r)
  told_members (entries n i r) = let h = told_name n in rw (h.name, h.written, told_members i, told_members r)
  told_members (members n i r) = let h = told_name n in rw (h.name, h.written, told_members i, told_members r)

-- whatever document is said is that of the text and the tree
pub told_doc : (t : List ℕ) (f : Forest) (d : Doc) → Tells t f d → d ≡ doc_of t f
told_doc t f d (tells h) = ap first_doc (told_members t h) ∙ sym (doc_members t f)

pub one_telling : (t : List ℕ) (f : Forest) (d e : Doc) → Tells t f d → Tells t f e → d ≡ e
one_telling t f d e h k = told_doc t f d h ∙ sym (told_doc t f e k)

pub tells_iff : (L : Limits) (t : List ℕ) (f : Forest) (to : ℕ) → read_of L t ≡ good f to → (d : Doc) → Tells t f d ↔ (d ≡ doc_of t f)
tells_iff L t f to e d = (told_doc t f d, λ h. rw h (tells_doc L t f to e))

-- the document has as many values as the tree, and is as deep
pub told_size : {t : List ℕ} {f : Forest} {d : Doc} → Tells t f d → size f ≡ count_of d
told_size {t} {f} (tells h) = root_count t f (sym (told_members t h))

pub told_depth : {t : List ℕ} {f : Forest} {d : Doc} → Tells t f d → depth_of f ≡ depth_in d
told_depth {t} {f} (tells h) = root_depth t f (sym (told_members t h))

-- ---- a text that says a document within the limits is accepted ----

module _ (t : List ℕ) where
  stretch_quoted : {from to : ℕ} {n w : List ℕ} → Stretch t from to w → Labelled n w → Quoted t (from + 1) (to - 1)
  stretch_quoted {from} {to} s l = part_quoted t from to l.inside l.codes (stretch_part t from to s ∙ l.quoted) l.spells

  name_quoted : {ns ne : ℕ} {n label : List ℕ} → NameTold t ns ne n label → 0 < ns → Quoted t ns ne
  name_quoted unnamed k = absurd (omega arith)
  name_quoted (named {e = e} s l) k = let last : e + 1 - 1 ≡ e = omega arith in rw last at (stretch_quoted s l)

  token_quoted : {kind from to : ℕ} {w : List ℕ} → Stretch t from to w → TokenTold kind w → kind ≡ 5 → Quoted t (from + 1) (to - 1)
  token_quoted s (as_written n) k = absurd (n k)
  token_quoted s (string l c) k = stretch_quoted s l

  -- the name of a value spells, and so does a string
  record Spelt (h : Head) : Type 0 where
    name : 0 < h.ns → Quoted t h.ns h.ne
    content : h.kind ≡ 5 → Quoted t (h.from + 1) (h.to - 1)

  told_spelt : {f : Forest} {ms : Members} {c d : Seat} {h : Head} → TellsAll t f ms → Sits c f d h → Spelt h
  told_spelt {c = c} {d = d} {h = h} nothing x4 = elim x4 [ ]
  told_spelt (token n s k r) Sits.leaf_here = record { name = name_quoted n; content = token_quoted s k }
  told_spelt (token n s k r) (Sits.leaf_on i) = told_spelt r i
  told_spelt (entries n e r) Sits.node_here = record { name = name_quoted n; content = λ k. absurd (no_string square k) }
  told_spelt (entries n e r) (Sits.into i) = told_spelt e i
  told_spelt (entries n e r) (Sits.node_on i) = told_spelt r i
  told_spelt (members n e r) Sits.node_here = record { name = name_quoted n; content = λ k. absurd (no_string curly k) }
  told_spelt (members n e r) (Sits.into i) = told_spelt e i
  told_spelt (members n e r) (Sits.node_on i) = told_spelt r i

  told_distinct : (j : JsonText t) (d : Doc) → TellsAll t (root_of j) (member [] [] d empty) → Distinct d → DistinctNames t (root_of j)
  told_distinct j d h k =
      let o : DistinctIn square (members_of t (root_of j)) = rw (← told_members t h) (k, tt) in
      record { new = λ c s i. new_in t square (root_nameless j) o tt i }

pub told_accepted : (L : Limits) (t : List ℕ) (derives : JsonText t) (d : Doc) → Tells t (root_of derives) d → (L.unique ≡ true → Distinct d)
    → length t ≤ L.bytes → depth_in d ≤ L.depth → count_of d ≤ L.values → Accepts L t (root_of derives)
told_accepted L t j d (tells h) u short shallow few =
    record {
      derives = j;
      tree = refl;
      strings = λ c s i. (told_spelt t h i).content;
      names = λ c s i. (told_spelt t h i).name;
      distinct = λ e. told_distinct t j d h (u e);
      short = short;
      shallow = omega (arith, told_depth (tells h));
      few = omega (arith, told_size (tells h));
    }
