-- What is written of a document derives from the grammar, without white space, and says the document again: `written_text`. Assumes nothing.
use mathlib.Core.Path.{◌≡◌, refl, sym, ap, ap₂, subst, ◌∙◌}
use mathlib.Core.List.{List, [], ◌∷◌, ◌++◌, append_assoc, append-nil}
use mathlib.Core.Bool.{Bool, true, false}
use Prim.Native.Nat.{ℕ}
use Rattle.text.specs.Tree.{Bracket, square, curly}
use Rattle.text.specs.Abnf.{Star, exactly}
use Rattle.text.specs.Grammar.{quoted, nothing, falsity, truth, numeral, string, opening, value, item, items, Is, simple, element, one, JsonText, json_text, closing}
use Rattle.text.specs.Doc.{Name, Doc, scalar, array, object, Members, empty, member, boxed}
use Rattle.text.specs.Writing.{written, written_entries, written_members}
use Rattle.text.specs.Labels.{Labelled, Every}
use Rattle.text.specs.Writable.{Lexeme}
use Rattle.text.proofs.Spelling.Decoded.{decode_spelled}
use Rattle.text.proofs.Grammar.Quotes.{spells_chars}
use Rattle.text.proofs.Labels.{LabelIn, EveryIn, every_parts}
use Rattle.text.proofs.Readback.Says.{says, doc_by, text_doc, says_value}

-- ---- what is written, by its brackets ----

abbrev pub written_in : Bracket → Members → (first : Bool) → List ℕ
written_in square ms first = written_entries ms first
written_in curly ms first = written_members ms first

abbrev pub item_text : Bracket → (label : List ℕ) → Doc → List ℕ
item_text square label d = written d
item_text curly label d = label ++ 58 ∷ written d

pub written_box : (b : Bracket) (ms : Members) → opening b ∷ written_in b ms true ≡ written (boxed b ms)
written_box square ms = refl
written_box curly ms = refl

written_first : (b : Bracket) (n : Name) (label : List ℕ) (d : Doc) (ms : Members) → item_text b label d ++ written_in b ms false ≡ written_in b (member n label d ms) true
written_first square n label d ms = refl
written_first curly n label d ms = refl

pub written_none : (b : Bracket) (first : Bool) → closing b ∷ [] ≡ written_in b empty first
written_none square first = refl
written_none curly first = refl

written_next : (b : Bracket) (n : Name) (label : List ℕ) (d : Doc) (ms : Members) → 44 ∷ written_in b (member n label d ms) true ≡ written_in b (member n label d ms) false
written_next square n label d ms = refl
written_next curly n label d ms = refl

-- ---- derivations that say a document again ----

record Value (d : Doc) : Type 0 where
  word : List ℕ
  is : Is value word
  all : word ≡ written d
  again : doc_by is ≡ d

record Item (b : Bracket) (n : Name) (label : List ℕ) (d : Doc) : Type 0 where
  word : List ℕ
  is : Is (item b) word
  all : word ≡ item_text b label d
  again : (more : Members) → says is [] [] more ≡ member n label d more

record Items (b : Bracket) (ms : Members) : Type 0 where
  word : List ℕ
  is : Is (items b) word
  all : word ++ closing b ∷ [] ≡ written_in b ms true
  again : says is [] [] empty ≡ ms

-- what is inside a container: nothing, or items that may follow a comma
data Inner (b : Bracket) : Members → Type 0 where
  bare : Inner b empty
  some : {ms : Members} → 44 ∷ written_in b ms true ≡ written_in b ms false → Items b ms → Inner b ms

token_value : {kind : ℕ} {token : List ℕ} → Lexeme kind token → Value (scalar kind token)
token_value Lexeme.null = record { word = _; is = simple nothing exactly; all = refl; again = refl }
token_value Lexeme.falsity = record { word = _; is = simple falsity exactly; all = refl; again = refl }
token_value Lexeme.truth = record { word = _; is = simple truth exactly; all = refl; again = refl }
token_value (Lexeme.number n) = record { word = _; is = simple numeral n; all = refl; again = refl }
token_value (Lexeme.string s) = record { word = _; is = simple string (quoted (spells_chars s)); all = refl; again = refl }

box_value : (b : Bracket) {ms : Members} → Inner b ms → Value (boxed b ms)
box_value b Inner.bare =
    record { word = opening b ∷ closing b ∷ []; is = Is.empty b Star.none; all = ap (λ (w : List ℕ). opening b ∷ w) (written_none b true) ∙ written_box b empty; again = refl }
box_value b (Inner.some {ms} e r) =
    record {
      word = opening b ∷ r.word ++ closing b ∷ [];
      is = Is.full b Star.none r.is;
      all = ap (λ (w : List ℕ). opening b ∷ w) r.all ∙ written_box b ms;
      again = ap (boxed b) r.again;
    }

value_item : (b : Bracket) {n : Name} {label : List ℕ} {d : Doc} → LabelIn Labelled b n label → Value d → Item b n label d
value_item square h v =
    record {
      word = v.word;
      is = element v.is;
      all = v.all;
      again = λ more. says_value v.is [] [] more ∙ rw (h.nameless, h.unwritten, v.again);
    }
value_item curly {n} {label} {d} h v =
    let m = 34 ∷ h.inside ++ 34 ∷ [] in
    record {
      word = m ++ 58 ∷ v.word;
      is = Is.member (quoted (spells_chars h.spells)) Star.none Star.none v.is;
      all = ap₂ (λ (l w : List ℕ). l ++ 58 ∷ w) (sym h.quoted) v.all;
      again = λ more. says_value v.is _ m more ∙ rw (decode_spelled h.spells, ← h.says, ← h.quoted, v.again);
    }

first_item : (b : Bracket) {n : Name} {label : List ℕ} {d : Doc} {ms : Members} → Item b n label d → Inner b ms → Items b (member n label d ms)
first_item b {n} {label} {d} i Inner.bare =
    record {
      word = i.word ++ [];
      is = one i.is Star.none;
      all = rw (append-nil i.word, i.all, written_none b false) (written_first b n label d empty);
      again = i.again empty;
    }
first_item b {n} {label} {d} i (Inner.some {ms} e r) =
    record {
      word = i.word ++ 44 ∷ r.word;
      is = Is.comma i.is Star.none Star.none r.is;
      all = append_assoc i.word (44 ∷ r.word) (closing b ∷ []) ∙ rw (r.all, e, i.all) (written_first b n label d ms);
      again = i.again _ ∙ ap (member n label d) r.again;
    }

mutual
  value_written : (d : Doc) → Every Labelled Lexeme d → Value d
  value_written (scalar kind token) h = token_value h
  value_written (array ms) h = box_value square (members_written ms square h)
  value_written (object ms) h = box_value curly (members_written ms curly h)

  members_written : (ms : Members) (b : Bracket) → EveryIn Labelled Lexeme b ms → Inner b ms
  members_written empty b h = Inner.bare
  members_written (member n label d ms) b h =
      let p = every_parts Labelled Lexeme b n label d ms h in
      Inner.some (written_next b n label d ms) (first_item b (value_item b p.0 (value_written d p.1)) (members_written ms b p.2))

pub written_text : (d : Doc) → Every Labelled Lexeme d → (j : JsonText (written d)) × (text_doc j ≡ d)
written_text d h =
    let v = value_written d h in
    subst (λ (t : List ℕ). (j : JsonText t) × (text_doc j ≡ d)) (append-nil v.word ∙ v.all) (json_text Star.none v.is Star.none, v.again)
