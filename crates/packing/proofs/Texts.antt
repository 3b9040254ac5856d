-- Texts that are accepted, and bytes that are unpacked:
--     text-unpacked     what a text packs to is unpacked to the document of its compact text
--     back-again        what is unpacked is a document whose text is accepted, and which packs to the bytes
--     one_plain         texts of one value have one compact text
-- Assumes nothing.
use mathlib.Core.Path.{◌≡◌, refl, sym, ap, ◌∙◌}
use mathlib.Core.List.{List}
use mathlib.Core.Bool.{true}
use mathlib.Core.Option.{Option, none, some}
use Prim.Native.Nat.{ℕ, suc, ◌+◌, ◌≤◌}
use native.Mathlib.Omega.{arith}
use lib.ListN.{length}
use borrow.Author.Tests.{le-leb}
use Rattle.laws.proofs.Bounds.{AllBelow}
use Rattle.laws.proofs.Decides.{told, test_true}
use Rattle.laws.proofs.Branches.{if_most, if_true}
use Rattle.text.specs.Limits.{Limits}
use Rattle.text.specs.Tree.{Bracket, square, curly, Forest, leaf, node, size}
use Rattle.text.specs.Tree as T
use Rattle.text.specs.Reader.{good}
use Rattle.text.specs.Whole.{read_of}
use Rattle.text.specs.Grammar.{depth_of, root_of}
use Rattle.text.specs.Meaning.{Accepts}
use Rattle.text.specs.Firsts.{HasFirst}
use Rattle.text.specs.Doc.{Doc, Members, boxed, members_of, doc_of, count_of}
use Rattle.text.specs.Distinct.{Distinct}
use Rattle.text.specs.Writing.{written}
use Rattle.text.specs.Labels.{Labelled, Every}
use Rattle.text.specs.Writable.{Lexeme, depth_in, depth_all}
use Rattle.text.proofs.Promise.{promised, members_first, count_root}
use Rattle.text.proofs.Grammar.Accepted.{accepts}
use Rattle.text.proofs.Readback.Documents.{text_lexical, text_shorter}
use Rattle.text.proofs.Readback.Again.{reads_back}
use Rattle.text.proofs.Answers.{keeps_read}
use Rattle.packing.specs.Packed.{packed}
use Rattle.packing.specs.Values.{SameValue, plain}
use Rattle.packing.specs.Unpacked.{doc_in, distinctly, within, unpacked}
use Rattle.packing.specs.Unpackable.{Fits}
use Rattle.packing.proofs.Same.{packed_alike}
use Rattle.packing.proofs.Plain.{plain_count, plain_distinct, plain_shorter}
use Rattle.packing.proofs.Distinct.{distinctly_decides}
use Rattle.packing.proofs.Again.{doc_again}
use Rattle.packing.proofs.Sound.{doc_sound}

-- ---- a document is as deep as the tree of its text

box_depth : (b : Bracket) (ms : Members) → depth_in (boxed b ms) ≡ suc (depth_all ms)
unfolding depth_in
box_depth square ms = refl
box_depth curly ms = refl

members_depth : (t : List ℕ) (f : Forest) → depth_all (members_of t f) ≡ depth_of f
unfolding members_of depth_in depth_all depth_of
members_depth t T.none = refl
members_depth t (leaf kind ns ne from to rest) = omega (arith, members_depth t rest)
members_depth t (node b ns ne from to inside rest) = omega (arith, box_depth b (members_of t inside), members_depth t inside, members_depth t rest)

doc_depth : (t : List ℕ) (f : Forest) → HasFirst f → depth_in (doc_of t f) ≤ depth_of f
unfolding depth_all
doc_depth t f h = omega (arith, members_depth t f, ap depth_all (members_first t f h))

-- ---- the limits' test

-- what passes the limits is what went in
record Within (L : Limits) (o : Option Doc) (d : Doc) : Type 0 where
  found : o ≡ some d
  few : count_of d ≤ L.values
  short : length (written d) ≤ L.bytes
  distinct : Distinct d

within_told : (L : Limits) (o : Option Doc) (d : Doc) → within L o ≡ some d → Within L o d
unfolding within
within_told L none d = λ e. let z : ◌≡◌ {A = ℕ} 0 1 = cc in absurd (omega arith)
within_told L (some c) d =
    if_most P (count_of c) L.values
    (λ h. if_most P (length (written c)) L.bytes
    (λ k. if_true P (distinctly c)
    (λ u e. let s : c ≡ d = cc in rw (← s) (record { found = refl; few = h; short = k; distinct = told (distinctly_decides c) u }))
    (λ u e. nothing e)) (λ k e. nothing e)) (λ h e. nothing e)
  where
    P : Option Doc → Type 0
    P o = o ≡ some d → Within L (some c) d

    nothing : none ≡ some d → Within L (some c) d
    nothing e = let z : ◌≡◌ {A = ℕ} 0 1 = cc in absurd (omega arith)

within_so : (L : Limits) (d : Doc) → count_of d ≤ L.values → length (written d) ≤ L.bytes → Distinct d → within L (some d) ≡ some d
unfolding within
within_so L d few short u = rw (le-leb (count_of d) L.values few, le-leb (length (written d)) L.bytes short, test_true (distinctly_decides d) u)

-- ---- a text that is accepted

module _ (L : Limits) (t : List ℕ) (f : Forest) (a : Accepts L t f) where
  text_read : read_of L t ≡ good f (length t)
  text_read = (accepts L t f).1 a

  pub text_labels : Every Labelled Lexeme (doc_of t f)
  text_labels = text_lexical L t f (length t) text_read

  pub text_count : count_of (doc_of t f) ≡ size f
  text_count = let p = promised L t f (length t) text_read in count_root t f p.some p.alone

  text_depth : depth_in (doc_of t f) ≤ L.depth
  text_depth = let p = promised L t f (length t) text_read in omega (arith, a.shallow, doc_depth t f p.some)

  pub text_plain : length (written (plain (doc_of t f))) ≤ length t
  text_plain = omega (arith, plain_shorter (doc_of t f) text_labels, text_shorter L t f (length t) text_read)

  pub text_unpacked : L.unique ≡ true → unpacked L (packed (doc_of t f)) ≡ some (plain (doc_of t f))
  unfolding unpacked
  text_unpacked unique =
      let p = promised L t f (length t) text_read in
      rw (doc_again (doc_of t f) text_labels L.depth text_depth)
      (within_so L (plain (doc_of t f)) (omega (arith, plain_count (doc_of t f), text_count, a.few)) (omega (arith, text_plain, a.short)) (plain_distinct (doc_of t f) (p.distinct unique)))

-- a text has one tree
pub one_tree : (L : Limits) (t : List ℕ) (f g : Forest) → Accepts L t f → Accepts L t g → f ≡ g
one_tree L t f g a b = let z : good f (length t) ≡ good g (length t) = sym ((accepts L t f).1 a) ∙ (accepts L t g).1 b in cc

-- ---- bytes that are unpacked

-- the text of the document d is accepted and says d, and p is its packing
pub record PacksBack (L : Limits) (p : List ℕ) (d : Doc) : Type 0 where
  pub tree : Forest
  pub accepted : Accepts L (written d) tree
  pub says : doc_of (written d) tree ≡ d
  pub labels : Every Labelled Lexeme d
  pub fits : Fits d
  pub packing : packed d ≡ p
  -- its names and strings are spelled by 01's escapes
  pub plainly : plain d ≡ d

pub back_again : (L : Limits) (p : List ℕ) → AllBelow 256 p → (d : Doc) → unpacked L p ≡ some d → PacksBack L p d
unfolding unpacked
back_again L p small d e =
    let w = within_told L (doc_in L.depth p) d e in
    let s = doc_sound L.depth p small d w.found in
    let r = reads_back L d s.labels in
    let read = keeps_read r.answer (record { short = w.short; shallow = s.shallow; few = w.few; distinct = λ u. w.distinct }) in
    record {
      tree = root_of r.derives;
      accepted = (accepts L (written d) (root_of r.derives)).0 read;
      says = r.says;
      labels = s.labels;
      fits = s.fits;
      packing = s.packing;
      plainly = s.plainly;
    }

-- ---- texts of one value

pub one_plain : (d e : Doc) → Every Labelled Lexeme d → Every Labelled Lexeme e → SameValue d e → plain d ≡ plain e
one_plain d e g h s =
    let x = doc_again d g (depth_in d + depth_in e) (omega arith) in
    let y = doc_again e h (depth_in d + depth_in e) (omega arith) in
    let z : some (plain d) ≡ some (plain e) = sym x ∙ ap (doc_in (depth_in d + depth_in e)) (packed_alike s) ∙ y in
    cc
