-- The document of the compact text (specs/Values.antt `plain`):
--     text-label, text-lexeme     a run of bytes that is text is spelled as a name and as a string
--     plain-labels                its names and tokens are good
--     plain-same                  it says the same value
--     plain-count, plain-depth, plain-distinct     it keeps the limits and has distinct names as the document has
--     plain-shorter               nothing that says the value is shorter
--     plain-spelled, spelled-plain     its names and strings are spelled by 01's escapes, and a document in which all are is its own
-- Assumes nothing.
use mathlib.Core.Path.{◌≡◌, refl, sym, ap, ap₂, ◌∙◌}
use mathlib.Core.List.{List, [], ◌∷◌, ◌++◌}
use mathlib.Core.Bool.{Bool, true, false}
use mathlib.Core.Option.{none}
use Prim.Native.Nat.{ℕ, suc, ◌+◌, ◌-◌, ◌≤◌, ◌<◌, max}
use native.Mathlib.Omega.{arith}
use lib.ListN.{length, length-append}
use borrow.Author.Tests.{ne_eqb}
use Rattle.laws.specs.Lists.{part_of}
use Rattle.laws.proofs.Splits.{part_there}
use Rattle.text.specs.Strings.{decode, content_of}
use Rattle.text.specs.Spelling.{Spells}
use Rattle.text.specs.Tree.{Bracket, square, curly}
use Rattle.text.specs.Doc.{Name, Doc, scalar, array, object, Members, empty, member, count_of, count_all, seek}
use Rattle.text.specs.Distinct.{Distinct}
use Rattle.text.specs.Writing.{comma, written, written_entries, written_members, spelled_bytes, spelled, SpelledName}
use Rattle.text.specs.Labels.{Labelled, Every}
use Rattle.text.specs.Writable.{Lexeme, depth_in, depth_all}
use Rattle.text.proofs.Spelling.Decoded.{decode_spelled}
use Rattle.text.proofs.Spelling.Encoding.{spells_good}
use Rattle.text.proofs.NewNames.{spelled_name, respelled, new_label, shortest, label_shortest}
use Rattle.text.proofs.Labels.{LabelIn, EveryIn, every_none, every_more, every_parts}
use Rattle.text.proofs.Documents.{DistinctIn, seek_name, seek_later}
use Rattle.packing.specs.Values.{SameName, SameValue, as_written, decoded, arrays, objects, SameItems, more, SpelledToken, as_is, string, plain_token, plain_label, plain, plain_items}
use Rattle.packing.proofs.Contents.{IsText}

-- ---- strings and names

-- a token in quotes decodes to what its inside decodes to
pub content_quoted : (w : List ℕ) → content_of (34 ∷ w ++ (34 ∷ [])) ≡ decode w
content_quoted w =
    let l = length-append w (34 ∷ []) in
    let n : length (34 ∷ w ++ (34 ∷ [])) - 1 ≡ 1 + length w = omega arith in
    ap (λ (e : ℕ). decode (part_of (34 ∷ w ++ (34 ∷ [])) 1 e)) n ∙ ap decode (part_there (34 ∷ w ++ (34 ∷ [])) 1 w (34 ∷ []) refl (omega arith))

pub name_text : {n label : List ℕ} → Labelled n label → IsText n
name_text h = record { codes = h.codes; good = spells_good h.spells; is = h.says }

pub string_text : {w codes : List ℕ} → Spells w codes → IsText (content_of (34 ∷ w ++ (34 ∷ [])))
string_text {w} {codes} s = record { codes = codes; good = spells_good s; is = content_quoted w ∙ decode_spelled s }

-- what a token in quotes says is what it decodes to
pub label_content : {content token : List ℕ} → Labelled content token → content_of token ≡ content
label_content h = ap content_of h.quoted ∙ content_quoted h.inside ∙ decode_spelled h.spells ∙ sym h.says

pub string_label : {w codes : List ℕ} → Spells w codes → Labelled (content_of (34 ∷ w ++ (34 ∷ []))) (34 ∷ w ++ (34 ∷ []))
string_label {w} {codes} s = record { inside = w; codes = codes; quoted = refl; spells = s; says = content_quoted w ∙ decode_spelled s }

pub text_label : {n : List ℕ} → IsText n → Labelled n (spelled n)
text_label t = rw t.is (new_label t.codes t.good)

pub text_lexeme : {n : List ℕ} → IsText n → Lexeme 5 (spelled n)
text_lexeme t = rw t.is (Lexeme.string (respelled t.codes t.good))

pub text_content : {n : List ℕ} → IsText n → content_of (spelled n) ≡ n
text_content {n} t =
    content_quoted (spelled_bytes n) ∙ ap (λ (x : List ℕ). decode (spelled_bytes x)) t.is ∙ decode_spelled (respelled t.codes t.good) ∙ sym t.is

-- ---- names and tokens are good

plain_lexeme : {kind : ℕ} {w : List ℕ} → Lexeme kind w → Lexeme kind (plain_token kind w)
plain_lexeme Lexeme.null = Lexeme.null
plain_lexeme Lexeme.falsity = Lexeme.falsity
plain_lexeme Lexeme.truth = Lexeme.truth
plain_lexeme (Lexeme.number n) = Lexeme.number n
plain_lexeme (Lexeme.string s) = text_lexeme (string_text s)

plain_named : (b : Bracket) (n : Name) (label : List ℕ) → LabelIn Labelled b n label → LabelIn Labelled b n (plain_label b n)
plain_named square n label h = record { nameless = h.nameless; unwritten = refl }
plain_named curly n label h = text_label (name_text h)

mutual
  unfolding plain plain_items

  pub plain_labels : (d : Doc) → Every Labelled Lexeme d → Every Labelled Lexeme (plain d)
  plain_labels (scalar kind token) h = plain_lexeme h
  plain_labels (array ms) h = plain_every ms square h
  plain_labels (object ms) h = plain_every ms curly h

  plain_every : (ms : Members) (b : Bracket) → EveryIn Labelled Lexeme b ms → EveryIn Labelled Lexeme b (plain_items ms b)
  plain_every empty b h = every_none Labelled Lexeme b
  plain_every (member n label d ms) b h =
      let p = every_parts Labelled Lexeme b n label d ms h in
      every_more Labelled Lexeme b n (plain_label b n) (plain d) (plain_items ms b) (plain_named b n label p.0, plain_labels d p.1, plain_every ms b p.2)

-- ---- the same value

same_lexeme : {kind : ℕ} {w : List ℕ} → Lexeme kind w → SameValue (scalar kind w) (scalar kind (plain_token kind w))
same_lexeme Lexeme.null = as_written
same_lexeme Lexeme.falsity = as_written
same_lexeme Lexeme.truth = as_written
same_lexeme (Lexeme.number n) = as_written
same_lexeme (Lexeme.string s) = decoded (string_label s) (text_label (string_text s))

same_name : (b : Bracket) (n : Name) → SameName b n n
same_name square n = tt
same_name curly n = refl

mutual
  unfolding plain plain_items

  pub plain_same : (d : Doc) → Every Labelled Lexeme d → SameValue d (plain d)
  plain_same (scalar kind token) h = same_lexeme h
  plain_same (array ms) h = arrays (plain_alike ms square h)
  plain_same (object ms) h = objects (plain_alike ms curly h)

  plain_alike : (ms : Members) (b : Bracket) → EveryIn Labelled Lexeme b ms → SameItems b ms (plain_items ms b)
  plain_alike empty b h = SameItems.none
  plain_alike (member n label d ms) b h =
      let p = every_parts Labelled Lexeme b n label d ms h in
      more (same_name b n) (plain_same d p.1) (plain_alike ms b p.2)

-- ---- the limits

mutual
  unfolding plain count_of plain_items count_all

  pub plain_count : (d : Doc) → count_of (plain d) ≡ count_of d
  plain_count (scalar kind token) = refl
  plain_count (array ms) = ap suc (count_items ms square)
  plain_count (object ms) = ap suc (count_items ms curly)

  count_items : (ms : Members) (b : Bracket) → count_all (plain_items ms b) ≡ count_all ms
  count_items empty b = refl
  count_items (member n label d ms) b = ap₂ (λ (x y : ℕ). x + y) (plain_count d) (count_items ms b)

mutual
  unfolding plain depth_in plain_items depth_all

  pub plain_depth : (d : Doc) → depth_in (plain d) ≡ depth_in d
  plain_depth (scalar kind token) = refl
  plain_depth (array ms) = ap suc (depth_items ms square)
  plain_depth (object ms) = ap suc (depth_items ms curly)

  depth_items : (ms : Members) (b : Bracket) → depth_all (plain_items ms b) ≡ depth_all ms
  depth_items empty b = refl
  depth_items (member n label d ms) b = ap₂ (λ (x y : ℕ). max x y) (plain_depth d) (depth_items ms b)

-- ---- distinct names

seek_plain : (ms : Members) (b : Bracket) (n : Name) → seek n ms ≡ none → seek n (plain_items ms b) ≡ none
unfolding plain_items
seek_plain empty b n h = refl
seek_plain (member m label d ms) b n h = rw (seek_name [] n m label d ms h) (seek_plain ms b n (seek_later [] n m label d ms h))

mutual
  unfolding plain plain_items

  pub plain_distinct : (d : Doc) → Distinct d → Distinct (plain d)
  plain_distinct (scalar kind token) h = tt
  plain_distinct (array ms) h = distinct_items_lem ms square h
  plain_distinct (object ms) h = distinct_items_lem ms curly h

  distinct_items_lem : (ms : Members) (b : Bracket) → DistinctIn b ms → DistinctIn b (plain_items ms b)
  distinct_items_lem empty square h = tt
  distinct_items_lem empty curly h = tt
  distinct_items_lem (member n label d ms) square h = (plain_distinct d h.0, distinct_items_lem ms square h.1)
  distinct_items_lem (member n label d ms) curly h = (seek_plain ms curly n h.0, plain_distinct d h.1, distinct_items_lem ms curly h.2)

-- ---- nothing shorter

shorter_lexeme : {kind : ℕ} {w : List ℕ} → Lexeme kind w → length (plain_token kind w) ≤ length w
shorter_lexeme Lexeme.null = omega arith
shorter_lexeme Lexeme.falsity = omega arith
shorter_lexeme Lexeme.truth = omega arith
shorter_lexeme (Lexeme.number n) = omega arith
shorter_lexeme (Lexeme.string {w} {codes} s) =
    omega (
      arith,
      ap (λ (x : List ℕ). length (spelled_bytes x)) (content_quoted w ∙ decode_spelled s),
      shortest s,
      length-append (spelled_bytes (content_of (34 ∷ w ++ (34 ∷ [])))) (34 ∷ []),
      length-append w (34 ∷ []),
    )

mutual
  unfolding plain plain_items

  pub plain_shorter : (d : Doc) → Every Labelled Lexeme d → length (written (plain d)) ≤ length (written d)
  plain_shorter (scalar kind token) h = shorter_lexeme h
  plain_shorter (array ms) h = omega (arith, shorter_entries ms h true)
  plain_shorter (object ms) h = omega (arith, shorter_members ms h true)

  shorter_entries : (ms : Members) → EveryIn Labelled Lexeme square ms → (first : Bool) → length (written_entries (plain_items ms square) first) ≤ length (written_entries ms first)
  shorter_entries empty h first = omega arith
  shorter_entries (member n label d ms) h first =
      omega (
        arith,
        plain_shorter d h.1,
        shorter_entries ms h.2 false,
        length-append (comma first ++ written (plain d)) (written_entries (plain_items ms square) false),
        length-append (comma first) (written (plain d)),
        length-append (comma first ++ written d) (written_entries ms false),
        length-append (comma first) (written d),
      )

  shorter_members : (ms : Members) → EveryIn Labelled Lexeme curly ms → (first : Bool) → length (written_members (plain_items ms curly) first) ≤ length (written_members ms first)
  shorter_members empty h first = omega arith
  shorter_members (member n label d ms) h first =
      omega (
        arith,
        label_shortest h.0,
        plain_shorter d h.1,
        shorter_members ms h.2 false,
        length-append (comma first ++ spelled n ++ (58 ∷ written (plain d))) (written_members (plain_items ms curly) false),
        length-append (comma first ++ spelled n) (58 ∷ written (plain d)),
        length-append (comma first) (spelled n),
        length-append (comma first ++ label ++ (58 ∷ written d)) (written_members ms false),
        length-append (comma first ++ label) (58 ∷ written d),
        length-append (comma first) label,
      )

-- ---- 01's escapes

not_five : (kind : ℕ) → kind < 5 → kind ≡ 5 → ⊥
not_five kind l e = omega arith

token_spelled : {kind : ℕ} {w : List ℕ} → Lexeme kind w → SpelledToken kind (plain_token kind w)
token_spelled Lexeme.null = as_is (not_five 1 (omega arith))
token_spelled Lexeme.falsity = as_is (not_five 2 (omega arith))
token_spelled Lexeme.truth = as_is (not_five 3 (omega arith))
token_spelled (Lexeme.number n) = as_is (not_five 4 (omega arith))
token_spelled (Lexeme.string s) = let t = string_text s in string (text_label t) ((spelled_name _ _).1 refl)

label_spelled : (b : Bracket) (n : Name) (label : List ℕ) → LabelIn Labelled b n label → LabelIn SpelledName b n (plain_label b n)
label_spelled square n label h = record { nameless = h.nameless; unwritten = refl }
label_spelled curly n label h = (spelled_name n (spelled n)).1 refl

mutual
  unfolding plain plain_items

  pub plain_spelled : (d : Doc) → Every Labelled Lexeme d → Every SpelledName SpelledToken (plain d)
  plain_spelled (scalar kind token) h = token_spelled h
  plain_spelled (array ms) h = items_spelled ms square h
  plain_spelled (object ms) h = items_spelled ms curly h

  items_spelled : (ms : Members) (b : Bracket) → EveryIn Labelled Lexeme b ms → EveryIn SpelledName SpelledToken b (plain_items ms b)
  items_spelled empty b h = every_none SpelledName SpelledToken b
  items_spelled (member n label d ms) b h =
      let p = every_parts Labelled Lexeme b n label d ms h in
      every_more SpelledName SpelledToken b n (plain_label b n) (plain d) (plain_items ms b) (label_spelled b n label p.0, plain_spelled d p.1, items_spelled ms b p.2)

token_own : {kind : ℕ} {w : List ℕ} → SpelledToken kind w → plain_token kind w ≡ w
token_own (as_is {kind} n) = rw (ne_eqb kind 5 n)
token_own (string {content} {token} l s) = ap spelled (label_content l) ∙ sym ((spelled_name content token).0 s)

label_own : (b : Bracket) (n : Name) (label : List ℕ) → LabelIn SpelledName b n label → plain_label b n ≡ label
label_own square n label h = sym h.unwritten
label_own curly n label h = sym ((spelled_name n label).0 h)

mutual
  unfolding plain plain_items

  pub spelled_plain : (d : Doc) → Every SpelledName SpelledToken d → plain d ≡ d
  spelled_plain (scalar kind token) h = ap (scalar kind) (token_own h)
  spelled_plain (array ms) h = ap array (items_own ms square h)
  spelled_plain (object ms) h = ap object (items_own ms curly h)

  items_own : (ms : Members) (b : Bracket) → EveryIn SpelledName SpelledToken b ms → plain_items ms b ≡ ms
  items_own empty b h = refl
  items_own (member n label d ms) b h =
      let p = every_parts SpelledName SpelledToken b n label d ms h in
      ap (λ (w : List ℕ). member n w (plain d) (plain_items ms b)) (label_own b n label p.0) ∙ ap₂ (member n label) (spelled_plain d p.1) (items_own ms b p.2)
