-- The names of a document that a text says are said by its labels: `labels_said`. For tokens it hands on what is asked of them.
-- Assumes nothing.
use mathlib.Core.Path.{◌≡◌, sym, ap, ap₂, ◌∙◌}
use mathlib.Core.List.{List, [], ◌∷◌, ◌++◌, append_assoc}
use Prim.Native.Nat.{ℕ, ◌+◌, ◌-◌}
use native.Mathlib.Omega.{arith}
use lib.ListN.{length, drop, length-append}
use borrow.Author.Tests.{ne_eqb}
use Rattle.laws.specs.Lists.{part_of}
use Rattle.laws.proofs.Places.{drop_byte}
use Rattle.laws.proofs.Splits.{part_there, there_part, length_part}
use Rattle.laws.proofs.Parts.{part_none}
use Rattle.text.specs.Strings.{decode, name_of}
use Rattle.text.specs.Spelling.{none, utf8s}
use Rattle.text.specs.Tree.{Bracket, square, curly, Forest}
use Rattle.text.specs.Doc.{Name, Doc, Members, empty, member, boxed, label_at, members_of, doc_of}
use Rattle.text.specs.Placed.{Quoted, NameIn, TokenIn, Placed, nothing, token, box}
use Rattle.text.specs.Labels.{Labelled, Unlabelled, Every, EveryEntry, EveryMember}
use Rattle.text.proofs.Spelling.Decoded.{decode_spelled}

module _ (t : List ℕ) (i e : ℕ) (q : Quoted t i e) where
  -- the bytes from the opening quote to the closing one
  between : drop (i - 1) t ≡ (34 ∷ part_of t i e ++ (34 ∷ [])) ++ drop (e + 1) t
  between =
      let f = q.first in
      let o = q.ordered in
      let n = q.inside in
      let back : i - 1 + 1 ≡ i = omega arith in
      drop_byte t (i - 1) (omega arith)
      ∙ ap₂ (λ (b : ℕ) (r : List ℕ). b ∷ r) q.opens
      (ap (λ (j : ℕ). drop j t) back
      ∙ there_part t i e o (omega arith)
      ∙ ap (λ (r : List ℕ). part_of t i e ++ r) (drop_byte t e n ∙ ap (λ (b : ℕ). b ∷ drop (e + 1) t) q.closes)
      ∙ sym (append_assoc (part_of t i e) (34 ∷ []) (drop (e + 1) t)))

  -- the part from the one to the other
  pub quoted_part : part_of t (i - 1) (e + 1) ≡ 34 ∷ part_of t i e ++ (34 ∷ [])
  quoted_part =
      let f = q.first in
      let o = q.ordered in
      let n = q.inside in
      let w : List ℕ = 34 ∷ part_of t i e ++ (34 ∷ []) in
      let l : length (part_of t i e) ≡ e - i = length_part t i e o (omega arith) in
      let end : i - 1 + length w ≡ e + 1 = omega (arith, length-append (part_of t i e) (34 ∷ [])) in
      ap (part_of t (i - 1)) (sym end) ∙ part_there t (i - 1) w (drop (e + 1) t) between (omega arith)

  pub label_said : Labelled (name_of t i e) (label_at t i e)
  label_said =
      let f = q.first in
      record {
        inside = part_of t i e;
        codes = q.codes;
        quoted = rw (ne_eqb i 0 (omega arith)) quoted_part;
        spells = q.spells;
        says = decode_spelled q.spells;
      }

-- a string with its quotes
pub string_part : (t : List ℕ) (from to : ℕ) → Quoted t (from + 1) (to - 1) → part_of t from to ≡ 34 ∷ part_of t (from + 1) (to - 1) ++ (34 ∷ [])
string_part t from to q =
    let o = q.ordered in
    let s : from + 1 - 1 ≡ from = omega arith in
    let e : to - 1 + 1 ≡ to = omega arith in
    rw (s, e) at (quoted_part t (from + 1) (to - 1) q)

-- an element has no name
pub no_label : (t : List ℕ) {ns ne : ℕ} → ns ≡ 0 → ne ≡ 0 → Unlabelled (name_of t ns ne) (label_at t ns ne)
unfolding utf8s
no_label t s e = record { nameless = ap₂ (name_of t) s e ∙ ap decode (part_none t 0 (omega arith)) ∙ decode_spelled none; unwritten = rw s }

-- ---- what is inside a container, whatever its bracket ----

-- the name of a value there: in an array it has none
abbrev pub LabelIn : (N : Name → (label : List ℕ) → Type 0) → Bracket → Name → (label : List ℕ) → Type 0
LabelIn N square n label = Unlabelled n label
LabelIn N curly n label = N n label

module _ (N : Name → List ℕ → Type 0) (T : ℕ → List ℕ → Type 0) where
  -- every name and every token there
  abbrev pub EveryIn : Bracket → Members → Type 0
  EveryIn square ms = EveryEntry N T ms
  EveryIn curly ms = EveryMember N T ms

  pub every_box : (c : Bracket) (ms : Members) → EveryIn c ms → Every N T (boxed c ms)
  every_box square ms h = h
  every_box curly ms h = h

  pub every_inside : (c : Bracket) (ms : Members) → Every N T (boxed c ms) → EveryIn c ms
  every_inside square ms h = h
  every_inside curly ms h = h

  pub every_none : (b : Bracket) → EveryIn b empty
  every_none square = tt
  every_none curly = tt

  module _ (b : Bracket) (n : Name) (label : List ℕ) (d : Doc) (ms : Members) where
    abbrev Parts : Type 0
    Parts = LabelIn N b n label × Every N T d × EveryIn b ms

    pub every_more : Parts → EveryIn b (member n label d ms)
    every_more = go b
      where
        go : (c : Bracket) → LabelIn N c n label × Every N T d × EveryIn c ms → EveryIn c (member n label d ms)
        go square h = h
        go curly h = h

    pub every_parts : EveryIn b (member n label d ms) → Parts
    every_parts = go b
      where
        go : (c : Bracket) → EveryIn c (member n label d ms) → LabelIn N c n label × Every N T d × EveryIn c ms
        go square h = h
        go curly h = h

-- ---- the document of a text ----

module _ (t : List ℕ) (K : (kind : ℕ) → (token : List ℕ) → Type 0)
    (h : (kind from to : ℕ) → TokenIn t kind from to → K kind (part_of t from to)) where
  abbrev EveryInside : Bracket → Members → Type 0
  EveryInside = EveryIn Labelled K

  name_said : (b : Bracket) (from ns ne at : ℕ) → NameIn t b from ns ne at → LabelIn Labelled b (name_of t ns ne) (label_at t ns ne)
  name_said square from ns ne at n = no_label t n.start n.end
  name_said curly from ns ne at n = label_said t ns ne n.quoted

  members_said : {b : Bracket} {f : Forest} {from to : ℕ} → Placed t b f from to → EveryInside b (members_of t f)
  unfolding members_of
  members_said {b} (nothing k) = every_none Labelled K b
  members_said {b} {f} {from} (token {kind = kind} {ns = ns} {ne = ne} {at = at} {end = end} {rest = rest} s k p) =
      every_more Labelled K b _ _ _ (members_of t rest) (name_said b from ns ne at s.name, h kind at end k, members_said p)
  members_said {b} {f} {from} (box {c = c} {ns = ns} {ne = ne} {at = at} {inside = inside} {rest = rest} s k i p) =
      every_more Labelled K b _ _ _ (members_of t rest) (name_said b from ns ne at s.name, every_box Labelled K c (members_of t inside) (members_said i), members_said p)

  pub labels_said : {b : Bracket} {f : Forest} {from to : ℕ} → Placed t b f from to → Every Labelled K (doc_of t f)
  unfolding doc_of
  labels_said (nothing k) = tt
  labels_said (token {kind = kind} {at = at} {end = end} s k p) = h kind at end k
  labels_said (box {c = c} {inside = inside} s k i p) = every_box Labelled K c (members_of t inside) (members_said i)
