-- Where 51 begins (specs/Edge.antt): `edge_of_width`. Assumes nothing.
use mathlib.Core.Path.{◌≡◌, refl, ap, subst, ◌∙◌}
use mathlib.Core.List.{List, [], ◌∷◌}
use Prim.Native.Nat.{ℕ, zero, suc, ◌+◌, ◌*◌, ◌≤◌}
use native.Mathlib.Omega.{arith}
use lib.ListN.{length, replicate, length-append, length-replicate}
use Rattle.text.specs.Limits.{row_words, base}
use Rattle.text.specs.Strings.{content_of}
use Rattle.text.specs.Spelling.{Spell, raw, Spells, none, more, utf8s}
use Rattle.text.specs.Tree.{Forest, size}
use Rattle.text.specs.Grammar.{root_of}
use Rattle.text.specs.Sheet.{numbers}
use Rattle.text.specs.Meaning.{Accepts}
use Rattle.text.specs.Doc.{Doc, scalar, doc_of, count_of, count_all}
use Rattle.text.specs.Writing.{written}
use Rattle.text.specs.Labels.{Labelled, Unlabelled, Every}
use Rattle.text.specs.Writable.{Lexeme, FitsLimits, depth_in, depth_all}
use Rattle.text.proofs.Spelling.Codes.{ascii_good, one_byte}
use Rattle.text.proofs.Spelling.Decoded.{decode_spelled}
use Rattle.text.proofs.Grammar.Accepted.{accepts}
use Rattle.text.proofs.Readback.Again.{reads_back}
use Rattle.text.proofs.Answers.{keeps_read}
use Rattle.packing.specs.Packed.{field_of, packed}
use Rattle.packing.specs.Services.{packed_by}
use Rattle.packing.specs.Unpackable.{Fits}
use Rattle.packing.specs.Edge.{letters, in_brackets, EdgeOfWidth}
use Rattle.packing.proofs.Plain.{content_quoted}
use Rattle.packing.proofs.Widest.{entry, edge_fits, edge_wide}
use Rattle.packing.proofs.Format.{packed_so}
use Rattle.packing.proofs.Packs.{packing_so, wide_iff}

-- ---- a string of letters

letter : Spell (97 ∷ []) 97
letter =
    subst (λ (w : List ℕ). Spell w 97) (one_byte 97 (omega arith))
    (raw (ascii_good 97 (omega arith)) (record { no_control = omega arith; no_quote = λ e. omega arith; no_backslash = λ e. omega arith }))

letters_spell : (n : ℕ) → Spells (replicate n 97) (replicate n 97)
letters_spell zero = none
letters_spell (suc n) = more letter (letters_spell n)

letters_utf8 : (n : ℕ) → utf8s (replicate n 97) ≡ replicate n 97
unfolding utf8s
letters_utf8 zero = refl
letters_utf8 (suc n) = rw (one_byte 97 (omega arith)) (ap (λ (w : List ℕ). 97 ∷ w) (letters_utf8 n))

letters_content : (n : ℕ) → length (content_of (letters n)) ≡ n
letters_content n = ap length (content_quoted (replicate n 97) ∙ decode_spelled (letters_spell n) ∙ letters_utf8 n) ∙ length-replicate n 97

letters_length : (n : ℕ) → length (letters n) ≡ n + 2
letters_length n = omega (arith, length-append {A = ℕ} (replicate n 97) (34 ∷ []), length-replicate {A = ℕ} n 97)

-- ---- texts that are read

-- the text of the document d is read, and says it
record ReadAs (d : Doc) : Type 0 where
  tree : Forest
  accepted : Accepts base (written d) tree
  says : doc_of (written d) tree ≡ d
  count : size tree ≡ count_of d

read_as : (d : Doc) → Every Labelled Lexeme d → FitsLimits base (written d) d → ReadAs d
read_as d h fits =
    let r = reads_back base d h in
    record { tree = root_of r.derives; accepted = (accepts base (written d) (root_of r.derives)).0 (keeps_read r.answer fits); says = r.says; count = r.count }

unnamed : Unlabelled [] []
unnamed = record { nameless = refl; unwritten = refl }

module _ (n : ℕ) (few : n ≤ 65532) where
  abbrev one : Doc
  one = entry (scalar 5 (letters n))

  one_labels : Every Labelled Lexeme one
  one_labels = (unnamed, Lexeme.string (letters_spell n), tt)

  one_length : length (written one) ≡ n + 4
  one_length = omega (arith, letters_length n, length-append {A = ℕ} (letters n) (93 ∷ []))

  one_fits : FitsLimits base (written one) one
  unfolding count_of count_all depth_in depth_all
  one_fits = record { short = omega (arith, one_length); shallow = omega arith; few = omega arith; distinct = λ u. (tt, tt) }

  two_fits : FitsLimits base (written (entry one)) (entry one)
  unfolding count_of count_all depth_in depth_all
  two_fits =
      record { short = omega (arith, one_length, length-append {A = ℕ} (written one) (93 ∷ [])); shallow = omega arith; few = omega arith; distinct = λ u. ((tt, tt), tt) }

-- ---- the two texts

edge_packs : (n : ℕ) → n ≡ 65532 → (words room : ℕ) → 16 ≤ words → 65538 ≤ room → (packed_by base (in_brackets (letters n)) words room).answer ≡ numbers 0 2 65538
unfolding count_of count_all
edge_packs n e words room w r =
    let few : n ≤ 65532 = omega arith in
    let d = one n few in
    let k = read_as d (one_labels n few) (one_fits n few) in
    let fits : Fits d = edge_fits (letters n) (letters_content n ∙ e) in
    let long : length (packed d) ≡ 65538 = omega (arith, letters_content n, length-append (field_of 5 (content_of (letters n))) []) in
    let rows : row_words * size k.tree ≤ words = omega (arith, k.count) in
    let at = packing_so base (written d) words room k.tree (packed d)
    (record { readable = record { accepts = k.accepted; enough = rows }; packing = rw k.says (packed_so d (one_labels n few) fits) }) (omega arith) in
    rw (at, long, k.count)

edge_refuses : (n : ℕ) → n ≡ 65530 → (words room : ℕ) → 24 ≤ words → (packed_by base (in_brackets (in_brackets (letters n))) words room).answer ≡ numbers 51 0 0
unfolding count_of count_all
edge_refuses n e words room w =
    let few : n ≤ 65532 = omega arith in
    let d = entry (one n few) in
    let k = read_as d (unnamed, one_labels n few, tt) (two_fits n few) in
    let rows : row_words * size k.tree ≤ words = omega (arith, k.count) in
    (wide_iff base (written d) words room 0).1
    (refl, (k.tree, record { accepts = k.accepted; enough = rows }, λ h. edge_wide (letters n) (letters_content n ∙ e) (subst Fits k.says h)))

pub edge_of_width : EdgeOfWidth
edge_of_width = record { packs = edge_packs; refuses = edge_refuses }
