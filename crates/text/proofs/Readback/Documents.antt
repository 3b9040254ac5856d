-- The document of a text that is read is writable, and no longer than the text when it is written: `text_lexical`, `text_shorter`.
-- Assumes nothing.
use mathlib.Core.Path.{◌≡◌, refl, ap, ◌∙◌}
use mathlib.Core.List.{List, []}
use Prim.Native.Nat.{ℕ, ◌≤◌}
use native.Mathlib.Omega.{arith}
use lib.ListN.{length}
use lib.Dec.{eqb}
use borrow.Author.Tests.{eqb-true, eqb-false}
use Rattle.laws.specs.Lists.{part_of}
use Rattle.laws.proofs.Bools.{by_test}
use Rattle.text.specs.Limits.{Limits}
use Rattle.text.specs.Strings.{decode}
use Rattle.text.specs.Tokens.{skip}
use Rattle.text.specs.Tree.{Bracket, square, curly, Forest}
use Rattle.text.specs.Reader.{good}
use Rattle.text.specs.Whole.{read_of}
use Rattle.text.specs.Placed.{TokenIn, null, falsity, truth, number, string}
use Rattle.text.specs.Grammar.{Number, JsonString, Simple, nothing, numeral, string, simple_kind, IsSimple, Phrase, value, item, items, Is, simple, empty, full, element, member, one, comma}
use Rattle.text.specs.Grammar as G
use Rattle.text.specs.Doc.{Name, Doc, scalar, array, object, Members, doc_of}
use Rattle.text.specs.Writing.{written}
use Rattle.text.specs.Labels.{Labelled, Every}
use Rattle.text.specs.Writable.{Lexeme, Lexical}
use Rattle.text.specs.Seats.{top}
use Rattle.text.proofs.Induction.{read_accepted}
use Rattle.text.proofs.Labels.{LabelIn, EveryIn, string_part, labels_said, every_box, every_none, every_more, every_parts}
use Rattle.text.proofs.Promise.{promised}
use Rattle.text.proofs.Grammar.Stands.{stands_to, stands_inside}
use Rattle.text.proofs.Grammar.Prefixes.{stands_drop}
use Rattle.text.proofs.Grammar.Words.{skip_inside}
use Rattle.text.proofs.Grammar.Sound.{Parsed}
use Rattle.text.proofs.Grammar.Wholes.{root_told}
use Rattle.text.proofs.Readback.Runs.{BytesAt}
use Rattle.text.proofs.Readback.Says.{inside_of, says, doc_by, says_value, value_doc}
use Rattle.text.proofs.Readback.Shorter.{value_shorter}

-- ---- something of every name and token of a derivation ----

module _ (N : Name → List ℕ → Type 0) (T : ℕ → List ℕ → Type 0)
    (named : (m : List ℕ) (g : JsonString m) → N (decode (inside_of g)) m) (token : (w : List ℕ) (k : Simple) → IsSimple k w → T (simple_kind k) w) where
  abbrev Built : Phrase → (Name → List ℕ → Members → Members) → Type 0
  Built value f = (b : Bracket) (n : Name) (label : List ℕ) (more : Members) → LabelIn N b n label → EveryIn N T b more → EveryIn N T b (f n label more)
  Built (item b) f = (n : Name) (label : List ℕ) (more : Members) → EveryIn N T b more → EveryIn N T b (f n label more)
  Built (items b) f = (n : Name) (label : List ℕ) (more : Members) → EveryIn N T b more → EveryIn N T b (f n label more)

  built : {a : Phrase} {w : List ℕ} (d : Is a w) → Built a (says d)
  built (simple {w} k l) = λ b n label more h e. every_more N T b n label (scalar (simple_kind k) w) more (h, token w k l, e)
  built (empty c p) = λ b n label more h e. every_more N T b n label _ more (h, every_box N T c Members.empty (every_none N T c), e)
  built (full c p d) =
      λ b n label more h e.
      every_more N T b n label _ more (h, every_box N T c (says d [] [] Members.empty) (built d [] [] Members.empty (every_none N T c)), e)
  built (element d) = λ n label more e. built d square [] [] more (record { nameless = refl; unwritten = refl }) e
  built (member {m} g p o d) = λ n label more e. built d curly (decode (inside_of g)) m more (named m g) e
  built (one d p) = λ n label more e. built d [] [] more e
  built (comma d p o e) = λ n label more h. built d [] [] (says e [] [] more) (built e [] [] more h)

  every_value : {w : List ℕ} (d : Is value w) → Every N T (doc_by d)
  every_value d =
      let e : EveryIn N T square (Members.member [] [] (doc_by d) Members.empty) =
      rw (says_value d [] [] Members.empty) at (built d square [] [] Members.empty (record { nameless = refl; unwritten = refl }) tt) in
      e.1

-- ---- two things of every name and token ----

module _ (N M P : Name → List ℕ → Type 0) (T S Q : ℕ → List ℕ → Type 0)
    (name : (n : Name) (label : List ℕ) → N n label → M n label → P n label) (token : (kind : ℕ) (w : List ℕ) → T kind w → S kind w → Q kind w) where
  both_labels : (b : Bracket) (n : Name) (label : List ℕ) → LabelIn N b n label → LabelIn M b n label → LabelIn P b n label
  both_labels square n label x y = x
  both_labels curly n label x y = name n label x y

  mutual
    both : (d : Doc) → Every N T d → Every M S d → Every P Q d
    both (scalar kind w) x y = token kind w x y
    both (array ms) x y = both_in ms square x y
    both (object ms) x y = both_in ms curly x y

    both_in : (ms : Members) (b : Bracket) → EveryIn N T b ms → EveryIn M S b ms → EveryIn P Q b ms
    both_in Members.empty b x y = every_none P Q b
    both_in (Members.member n label d ms) b x y =
        let p = every_parts N T b n label d ms x in
        let q = every_parts M S b n label d ms y in
        every_more P Q b n label d ms (both_labels b n label p.0 q.0, both d p.1 q.1, both_in ms b p.2 q.2)

-- ---- tokens ----

-- what a text's places say of a token, numbers aside; and what the grammar says of a number
abbrev PlacedToken : ℕ → List ℕ → Type 0
PlacedToken kind w = (kind ≡ 4 → ⊥) → Lexeme kind w

abbrev NumberToken : ℕ → List ℕ → Type 0
NumberToken kind w = kind ≡ 4 → Number w

placed_token : (t : List ℕ) {kind from to : ℕ} → TokenIn t kind from to → PlacedToken kind (part_of t from to)
placed_token t (null e) = λ k. rw e Lexeme.null
placed_token t (falsity e) = λ k. rw e Lexeme.falsity
placed_token t (truth e) = λ k. rw e Lexeme.truth
placed_token t (number n) = λ k. absurd (k refl)
placed_token t (string {from} {to} q) = λ k. rw (string_part t from to q) (Lexeme.string q.spells)

number_token : (w : List ℕ) (k : Simple) → IsSimple k w → NumberToken (simple_kind k) w
number_token w nothing l = λ e. absurd (omega arith)
number_token w G.falsity l = λ e. absurd (omega arith)
number_token w G.truth l = λ e. absurd (omega arith)
number_token w numeral l = λ e. l
number_token w string l = λ e. absurd (omega arith)

lexeme : (kind : ℕ) (w : List ℕ) → PlacedToken kind w → NumberToken kind w → Lexeme kind w
lexeme kind w p n = by_test (eqb kind 4) (λ b. let e = eqb-true kind 4 b in rw e (Lexeme.number (n e))) (λ b. p (eqb-false kind 4 b))

-- ---- a text that is read ----

module _ (L : Limits) (t : List ℕ) (f : Forest) (to : ℕ) (e : read_of L t ≡ good f to) where
  -- the derived value of a text, without the white space around it
  record Core : Type 0 where
    word : List ℕ
    is : Is value word
    inside : length word ≤ length t
    doc : doc_of t f ≡ doc_by is

  core : Core
  core =
      let a = read_accepted L t f to e in
      let p : Parsed L t value L.depth top 0 0 (skip t 0) f a.end = rw a.value at (root_told L t) in
      let n = stands_to p.stands in
      let i = stands_inside p.stands (skip_inside t 0 (omega arith)) in
      let here : BytesAt t (skip t 0) p.word = record { rest = _; there = stands_drop p.stands; inside = omega arith } in
      record { word = p.word; is = p.is; inside = omega arith; doc = ap (doc_of t) p.trees ∙ value_doc t p.is (skip t 0) here }

  pub text_lexical : Lexical (doc_of t f)
  text_lexical =
      let p = promised L t f to e in
      let c = core in
      let numbers : Every (λ n label. Prim.Unit {0}) NumberToken (doc_of t f) = rw c.doc (every_value (λ n label. Prim.Unit {0}) NumberToken (λ m g. tt) number_token c.is) in
      both Labelled (λ n label. Prim.Unit {0}) Labelled PlacedToken NumberToken Lexeme (λ n label x y. x) lexeme (doc_of t f)
      (labels_said t PlacedToken (λ kind from end k. placed_token t k) p.placed) numbers

  pub text_shorter : length (written (doc_of t f)) ≤ length t
  text_shorter = let c = core in omega (arith, value_shorter c.is, c.inside, ap (λ (d : Doc). length (written d)) c.doc)
