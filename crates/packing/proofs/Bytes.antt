-- What is packed of a good document whose contents fit is bytes: `packed_bytes`. Assumes nothing.
use mathlib.Core.Path.{subst, sym}
use mathlib.Core.List.{List, [], ◌∷◌, ◌++◌}
use Prim.Native.Nat.{ℕ, ◌≤◌, ◌<◌}
use native.Mathlib.Omega.{arith}
use lib.ListN.{length, length-append}
use Rattle.laws.proofs.Bounds.{AllBelow}
use Rattle.text.specs.Utf8.{utf8}
use Rattle.text.specs.Strings.{content_of}
use Rattle.text.specs.Spelling.{utf8s}
use Rattle.text.specs.Abnf.{Byte, byte, Just, Seq, seq, Or, this, that, Opt, Star}
use Rattle.text.specs.Grammar.{Digit, Digits, E, Sign, Number}
use Rattle.text.specs.Tree.{Bracket, square, curly}
use Rattle.text.specs.Doc.{Doc, scalar, array, object, Members, empty, member}
use Rattle.text.specs.Labels.{Labelled, Every}
use Rattle.text.specs.Writable.{Lexeme}
use Rattle.text.proofs.Labels.{LabelIn, EveryIn, every_parts}
use Rattle.text.proofs.Spelling.Codes.{by_utf8}
use Rattle.packing.specs.Packed.{field_of, content_in, name_field, packed, packed_items}
use Rattle.packing.specs.Unpackable.{Fits}
use Rattle.packing.proofs.Contents.{IsText}
use Rattle.packing.proofs.Widest.{inner, packed_length, widest_root}
use Rattle.packing.proofs.Plain.{name_text, string_text}

-- ---- languages of bytes

below_append : (u v : List ℕ) → AllBelow 256 u → AllBelow 256 v → AllBelow 256 (u ++ v)
below_append [] v g h = h
below_append (x ∷ u) v g h = (g.0, below_append u v g.1 h)

-- every word of the language is bytes
record Bytes (L : List ℕ → Type 0) : Type 0 where
  are : (w : List ℕ) → L w → AllBelow 256 w

byte_bytes : {P : ℕ → Type 0} → ((x : ℕ) → P x → x < 256) → Bytes (Byte P)
byte_bytes {P} f = record { are = λ w h. go w h }
  where
    go : (w : List ℕ) → Byte P w → AllBelow 256 w
    go w (byte {x} h) = (f x h, tt)

module _ {L M : List ℕ → Type 0} (l : Bytes L) (m : Bytes M) where
  seq_bytes : Bytes (Seq L M)
  seq_bytes = record { are = λ w h. go w h }
    where
      go : (w : List ℕ) → Seq L M w → AllBelow 256 w
      go w (seq {u} {v} g h) = below_append u v (l.are u g) (m.are v h)

  or_bytes : Bytes (Or L M)
  or_bytes = record { are = λ w h. go w h }
    where
      go : (w : List ℕ) → Or L M w → AllBelow 256 w
      go w (this h) = l.are w h
      go w (that h) = m.are w h

module _ {L : List ℕ → Type 0} (l : Bytes L) where
  opt_bytes : Bytes (Opt L)
  opt_bytes = record { are = λ w h. go w h }
    where
      go : (w : List ℕ) → Opt L w → AllBelow 256 w
      go w Opt.none = tt
      go w (Opt.some h) = l.are w h

  star_below : (w : List ℕ) → Star L w → AllBelow 256 w
  star_below w Star.none = tt
  star_below w (Star.more {u} {v} g h) = below_append u v (l.are u g) (star_below v h)

  star_bytes : Bytes (Star L)
  star_bytes = record { are = star_below }

just_bytes : (c : ℕ) → c < 256 → Bytes (Just c)
just_bytes c h = byte_bytes (λ x e. omega arith)

digit_bytes : Bytes Digit
digit_bytes = byte_bytes (λ x b. omega (arith, b.up_to))

digits_bytes : Bytes Digits
digits_bytes = seq_bytes digit_bytes (star_bytes digit_bytes)

e_small : (x : ℕ) → E x → x < 256
e_small x E.small = omega arith
e_small x E.capital = omega arith

sign_small : (x : ℕ) → Sign x → x < 256
sign_small x Sign.minus = omega arith
sign_small x Sign.plus = omega arith

number_bytes : Bytes Number
number_bytes =
    seq_bytes
    (seq_bytes
    (seq_bytes (opt_bytes (just_bytes 0x2D (omega arith)))
    (or_bytes (just_bytes 0x30 (omega arith)) (seq_bytes (byte_bytes (λ x b. omega (arith, b.up_to))) (star_bytes digit_bytes))))
    (opt_bytes (seq_bytes (just_bytes 0x2E (omega arith)) digits_bytes)))
    (opt_bytes (seq_bytes (byte_bytes e_small) (seq_bytes (opt_bytes (byte_bytes sign_small)) digits_bytes)))

-- ---- UTF-8

utf8_bytes : (c : ℕ) → AllBelow 256 (utf8 c)
utf8_bytes c = by_utf8 (AllBelow 256) c (λ h. omega arith) (λ h k. omega arith) (λ h k. omega arith) (λ h. omega arith)

utf8s_bytes : (cs : List ℕ) → AllBelow 256 (utf8s cs)
unfolding utf8s
utf8s_bytes [] = tt
utf8s_bytes (c ∷ cs) = below_append (utf8 c) (utf8s cs) (utf8_bytes c) (utf8s_bytes cs)

text_bytes : {w : List ℕ} → IsText w → AllBelow 256 w
text_bytes t = subst (AllBelow 256) (sym t.is) (utf8s_bytes t.codes)

-- ---- fields

field_bytes : (tag : ℕ) (content : List ℕ) → tag < 256 → length content ≤ 65535 → AllBelow 256 content → AllBelow 256 (field_of tag content)
field_bytes tag content h l c = (h, (omega arith, (omega arith, c)))

scalar_bytes : {kind : ℕ} {w : List ℕ} → Lexeme kind w → length (content_in kind w) ≤ 65535 → AllBelow 256 (field_of kind (content_in kind w))
scalar_bytes Lexeme.null l = field_bytes 1 [] (omega arith) l tt
scalar_bytes Lexeme.falsity l = field_bytes 2 [] (omega arith) l tt
scalar_bytes Lexeme.truth l = field_bytes 3 [] (omega arith) l tt
scalar_bytes (Lexeme.number {w} n) l = field_bytes 4 w (omega arith) l (number_bytes.are w n)
scalar_bytes (Lexeme.string {w} s) l = field_bytes 5 (content_of (34 ∷ w ++ (34 ∷ []))) (omega arith) l (text_bytes (string_text s))

name_bytes : (b : Bracket) (n label : List ℕ) → LabelIn Labelled b n label → length (name_field b n) ≤ 65535 → AllBelow 256 (name_field b n)
name_bytes square n label h l = tt
name_bytes curly n label h l = field_bytes 8 n (omega arith) (omega arith) (text_bytes (name_text h))

mutual
  doc_bytes : (d : Doc) → Every Labelled Lexeme d → length (inner d) ≤ 65535 → AllBelow 256 (packed d)
  doc_bytes (scalar kind token) h l = scalar_bytes h l
  doc_bytes (array ms) h l = field_bytes 6 (packed_items ms square) (omega arith) l (items_bytes ms square h l)
  doc_bytes (object ms) h l = field_bytes 7 (packed_items ms curly) (omega arith) l (items_bytes ms curly h l)

  items_bytes : (ms : Members) (b : Bracket) → EveryIn Labelled Lexeme b ms → length (packed_items ms b) ≤ 65535 → AllBelow 256 (packed_items ms b)
  items_bytes empty b h l = tt
  items_bytes (member n label d ms) b h l =
      let p = every_parts Labelled Lexeme b n label d ms h in
      let size = packed_length d in
      let outer = length-append (name_field b n) (packed d ++ packed_items ms b) in
      let after = length-append (packed d) (packed_items ms b) in
      below_append (name_field b n) (packed d ++ packed_items ms b) (name_bytes b n label p.0 (omega arith))
      (below_append (packed d) (packed_items ms b) (doc_bytes d p.1 (omega arith)) (items_bytes ms b p.2 (omega arith)))

pub packed_bytes : (d : Doc) → Every Labelled Lexeme d → Fits d → AllBelow 256 (packed d)
packed_bytes d h f = doc_bytes d h (omega (arith, widest_root d))
