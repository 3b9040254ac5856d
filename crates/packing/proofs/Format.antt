-- The format by rules (specs/Format.antt) is what `packed` writes, where every content fits: `packed_told`, `packed_so`. Assumes nothing.
use mathlib.Core.Path.{◌≡◌, refl, sym, ap, ap₂, ◌∙◌}
use mathlib.Core.List.{List, [], ◌∷◌, ◌++◌}
use Prim.Native.Nat.{ℕ, ◌/◌, ◌%◌, ◌≤◌}
use native.Mathlib.Omega.{arith}
use lib.ListN.{length, length-append}
use Rattle.text.specs.Strings.{content_of}
use Rattle.text.specs.Tree.{square, curly}
use Rattle.text.specs.Doc.{Doc, scalar, array, object, Members, empty, member}
use Rattle.text.specs.Labels.{Labelled, Every, EveryEntry, EveryMember}
use Rattle.text.specs.Writable.{Lexeme}
use Rattle.packing.specs.Format.{Field, headed, PackedAs, null, falsity, truth, number, string, entries, members, PackedEntries, no_entry, entry, PackedMembers, no_member, named}
use Rattle.packing.specs.Packed.{field_of, content_in, packed, packed_items}
use Rattle.packing.specs.Unpackable.{Fits}
use Rattle.packing.proofs.Widest.{inner, packed_length, widest_root}
use Rattle.packing.proofs.Plain.{label_content, string_label}

-- ---- what the rules allow is computed

-- a run of bytes is the field of a content that fits
record OfContent (p : List ℕ) (tag : ℕ) (content : List ℕ) : Type 0 where
  is : p ≡ field_of tag content
  narrow : length content ≤ 65535

field_told : {tag : ℕ} {content p : List ℕ} → Field tag content p → OfContent p tag content
field_told (headed {tag} {high} {low} {content} h l e) =
    let x : length content / 256 ≡ high = omega arith in
    let y : length content % 256 ≡ low = omega arith in
    record { is = rw (x, y); narrow = omega arith }

-- the bytes are those of a document whose own content fits
record OfDoc (p : List ℕ) (d : Doc) : Type 0 where
  is : p ≡ packed d
  narrow : length (inner d) ≤ 65535

scalar_told : {kind : ℕ} {w p : List ℕ} → PackedAs (scalar kind w) p → OfDoc p (scalar kind w)
scalar_told (null f) = let k = field_told f in record { is = k.is; narrow = k.narrow }
scalar_told (falsity f) = let k = field_told f in record { is = k.is; narrow = k.narrow }
scalar_told (truth f) = let k = field_told f in record { is = k.is; narrow = k.narrow }
scalar_told (number f) = let k = field_told f in record { is = k.is; narrow = k.narrow }
scalar_told (string l f) =
    let k = field_told f in
    record { is = k.is ∙ ap (field_of 5) (sym (label_content l)); narrow = omega (arith, k.narrow, ap length (label_content l)) }

mutual
  doc_told : (d : Doc) {p : List ℕ} → PackedAs d p → OfDoc p d
  doc_told (scalar kind w) h = scalar_told h
  doc_told (array ms) (entries h f) =
      let k = field_told f in
      let e = entries_told ms h in
      record { is = k.is ∙ ap (field_of 6) e; narrow = omega (arith, k.narrow, ap length e) }
  doc_told (object ms) (members h f) =
      let k = field_told f in
      let e = members_told ms h in
      record { is = k.is ∙ ap (field_of 7) e; narrow = omega (arith, k.narrow, ap length e) }

  entries_told : (ms : Members) {c : List ℕ} → PackedEntries ms c → c ≡ packed_items ms square
  entries_told empty no_entry = refl
  entries_told (member n label d ms) (entry h r) = ap₂ (λ (x y : List ℕ). x ++ y) (doc_told d h).is (entries_told ms r)

  members_told : (ms : Members) {c : List ℕ} → PackedMembers ms c → c ≡ packed_items ms curly
  members_told empty no_member = refl
  members_told (member n label d ms) (named l f h r) =
      ap₂ (λ (x y : List ℕ). x ++ y) (field_told f).is (ap₂ (λ (x y : List ℕ). x ++ y) (doc_told d h).is (members_told ms r))

-- ---- what is computed the rules allow

field_so : (tag : ℕ) (content : List ℕ) → length content ≤ 65535 → Field tag content (field_of tag content)
field_so tag content h = headed {high = length content / 256} {low = length content % 256} {content = content} (omega arith) (omega arith) (omega arith)

lexeme_so : {kind : ℕ} {w : List ℕ} → Lexeme kind w → length (content_in kind w) ≤ 65535 → PackedAs (scalar kind w) (packed (scalar kind w))
lexeme_so Lexeme.null l = null (field_so 1 [] l)
lexeme_so Lexeme.falsity l = falsity (field_so 2 [] l)
lexeme_so Lexeme.truth l = truth (field_so 3 [] l)
lexeme_so (Lexeme.number {w} n) l = number (field_so 4 w l)
lexeme_so (Lexeme.string {w} s) l = string (string_label s) (field_so 5 (content_of (34 ∷ w ++ (34 ∷ []))) l)

mutual
  doc_so : (d : Doc) → Every Labelled Lexeme d → length (inner d) ≤ 65535 → PackedAs d (packed d)
  doc_so (scalar kind token) h l = lexeme_so h l
  doc_so (array ms) h l = entries (entries_so ms h l) (field_so 6 (packed_items ms square) l)
  doc_so (object ms) h l = members (members_so ms h l) (field_so 7 (packed_items ms curly) l)

  entries_so : (ms : Members) → EveryEntry Labelled Lexeme ms → length (packed_items ms square) ≤ 65535 → PackedEntries ms (packed_items ms square)
  entries_so empty h l = no_entry
  entries_so (member n label d ms) h l =
      let size = packed_length d in
      let after = length-append (packed d) (packed_items ms square) in
      entry (doc_so d h.1 (omega arith)) (entries_so ms h.2 (omega arith))

  members_so : (ms : Members) → EveryMember Labelled Lexeme ms → length (packed_items ms curly) ≤ 65535 → PackedMembers ms (packed_items ms curly)
  members_so empty h l = no_member
  members_so (member n label d ms) h l =
      let size = packed_length d in
      let outer = length-append (field_of 8 n) (packed d ++ packed_items ms curly) in
      let after = length-append (packed d) (packed_items ms curly) in
      named h.0 (field_so 8 n (omega arith)) (doc_so d h.1 (omega arith)) (members_so ms h.2 (omega arith))

-- ---- theorems

pub packed_told : (d : Doc) (p : List ℕ) → PackedAs d p → Fits d × (p ≡ packed d)
packed_told d p h = let k = doc_told d h in (omega (arith, k.narrow, widest_root d), k.is)

pub packed_so : (d : Doc) → Every Labelled Lexeme d → Fits d → PackedAs d (packed d)
packed_so d h f = doc_so d h (omega (arith, widest_root d))
