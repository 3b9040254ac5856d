-- What the walk over fields finds is a good document whose packing the bytes are: `doc_sound`. Assumes nothing.
use mathlib.Core.Path.{◌≡◌, refl, sym, ap, ap₂, ◌∙◌}
use mathlib.Core.List.{List, [], ◌∷◌, ◌++◌, append-nil}
use mathlib.Core.Option.{Option, none, some}
use Prim.Native.Nat.{ℕ, zero, suc, ◌≤◌}
use native.Mathlib.Omega.{arith}
use lib.ListN.{length}
use Rattle.laws.proofs.Bounds.{AllBelow}
use Rattle.laws.proofs.Branches.{if_equal, if_true}
use Rattle.text.specs.Text.{bytes}
use Rattle.text.specs.Tree.{Bracket, square, curly, bracket_kind}
use Rattle.text.specs.Doc.{Name, Doc, scalar, array, object, Members, member, kind_of}
use Rattle.text.specs.Writing.{spelled}
use Rattle.text.specs.Labels.{Labelled, Every}
use Rattle.text.specs.Writable.{Lexeme, depth_in, depth_all}
use Rattle.text.proofs.Labels.{LabelIn, EveryIn, every_none, every_more}
use Rattle.packing.specs.Packed.{field_of, content_in, name_field, packed, packed_items}
use Rattle.packing.specs.Values.{plain_label, plain, plain_items}
use Rattle.packing.specs.Fields.{Cut, torn, field, cut, is_text, is_number}
use Rattle.packing.specs.Unpacked.{bare, simple_of, joined, ValueReader, on_value, on_name, on_item, unless_ended, items_of, boxes, value_by, value_of, on_root, doc_in}
use Rattle.packing.specs.Unpackable.{Fits}
use Rattle.packing.proofs.Fields.{Cuts, cut_whole}
use Rattle.packing.proofs.Contents.{text_told, number_told}
use Rattle.packing.proofs.Widest.{inner, packed_field, widest_root}
use Rattle.packing.proofs.Plain.{text_label, text_lexeme, text_content}

-- ---- what is said of an answer

-- the document d, of which a field has the tag and the content
record Sound (depth tag : ℕ) (content : List ℕ) (d : Doc) : Type 0 where
  kinds : kind_of d ≡ tag
  contents : inner d ≡ content
  labels : Every Labelled Lexeme d
  plainly : plain d ≡ d
  shallow : depth_in d ≤ depth

abbrev Says : (depth tag : ℕ) → List ℕ → Option Doc → Type 0
Says depth tag content none = Prim.Unit {0}
Says depth tag content (some d) = Sound depth tag content d

-- the items of a container, of which these are the fields
record SoundItems (depth : ℕ) (b : Bracket) (p : List ℕ) (ms : Members) : Type 0 where
  packing : packed_items ms b ≡ p
  labels : EveryIn Labelled Lexeme b ms
  plainly : plain_items ms b ≡ ms
  shallow : depth_all ms ≤ depth

abbrev SaysItems : (depth : ℕ) → Bracket → List ℕ → Option Members → Type 0
SaysItems depth b p none = Prim.Unit {0}
SaysItems depth b p (some ms) = SoundItems depth b p ms

-- ---- values that hold no others

module _ (depth : ℕ) where
  bare_sound : (kind : ℕ) (word content : List ℕ) → Lexeme kind word → content_in kind word ≡ [] → plain (scalar kind word) ≡ scalar kind word
      → Says depth kind content (bare kind word content)
  unfolding depth_in
  bare_sound kind word [] l c p = record { kinds = refl; contents = c; labels = l; plainly = p; shallow = omega arith }
  bare_sound kind word (x ∷ xs) l c p = tt

  simple_sound : (tag : ℕ) (content : List ℕ) → AllBelow 256 content → Says depth tag content (simple_of tag content)
  unfolding simple_of plain depth_in
  simple_sound tag content small =
      if_equal P tag 1 (λ e. rw e (bare_sound 1 (bytes "null") content Lexeme.null refl refl))
      (λ n. if_equal P tag 2 (λ e. rw e (bare_sound 2 (bytes "false") content Lexeme.falsity refl refl))
      (λ n. if_equal P tag 3 (λ e. rw e (bare_sound 3 (bytes "true") content Lexeme.truth refl refl))
      (λ n. if_equal P tag 4
      (λ e. if_true P (is_number content)
      (λ h. rw e (record { kinds = refl; contents = refl; labels = Lexeme.number (number_told content h); plainly = refl; shallow = omega arith })) (λ h. tt))
      (λ n. if_equal P tag 5
      (λ e. if_true P (is_text content)
      (λ h. let t = text_told content small h in
      rw e (record { kinds = refl; contents = text_content t; labels = text_lexeme t; plainly = ap (λ (w : List ℕ). scalar 5 (spelled w)) (text_content t); shallow = omega arith }))
      (λ h. tt))
      (λ n. tt)))))
    where
      P : Option Doc → Type 0
      P = Says depth tag content

-- ---- items

module _ (depth : ℕ) (value : ValueReader) (sound : (tag : ℕ) (content : List ℕ) → AllBelow 256 content → Says depth tag content (value tag content)) where
  joined_sound : (b : Bracket) (n : Name) (p : List ℕ) (tag : ℕ) (content rest : List ℕ) → LabelIn Labelled b n (plain_label b n) → p ≡ name_field b n ++ (field_of tag content ++ rest)
      → (o : Option Doc) → Says depth tag content o → (r : Option Members) → SaysItems depth b rest r → SaysItems depth b p (joined n (plain_label b n) o r)
  unfolding plain_items depth_all
  joined_sound b n p tag content rest l e none s r t = tt
  joined_sound b n p tag content rest l e (some d) s none t = tt
  joined_sound b n p tag content rest l e (some d) s (some ms) t =
      let field_is : packed d ≡ field_of tag content = packed_field d ∙ ap₂ field_of s.kinds s.contents in
      record {
        packing = ap₂ (λ (x y : List ℕ). name_field b n ++ (x ++ y)) field_is t.packing ∙ sym e;
        labels = every_more Labelled Lexeme b n (plain_label b n) d ms (l, s.labels, t.labels);
        plainly = ap₂ (member n (plain_label b n)) s.plainly t.plainly;
        shallow = omega (arith, s.shallow, t.shallow);
      }

  module _ (b : Bracket) (more : List ℕ → Option Members) (later : (r : List ℕ) → AllBelow 256 r → SaysItems depth b r (more r)) where
    value_sound : (n : Name) (p q : List ℕ) → LabelIn Labelled b n (plain_label b n) → p ≡ name_field b n ++ q
        → (c : Cut) → Cuts q c → SaysItems depth b p (on_value value more n (plain_label b n) c)
    value_sound n p q l e torn k = tt
    value_sound n p q l e (field tag content rest) k =
        joined_sound b n p tag content rest l (e ∙ ap (λ (x : List ℕ). name_field b n ++ x) k.is)
        (value tag content) (sound tag content k.small) (more rest) (later rest k.later)

  name_sound : (more : List ℕ → Option Members) → ((r : List ℕ) → AllBelow 256 r → SaysItems depth curly r (more r))
      → (p : List ℕ) (c : Cut) → Cuts p c → SaysItems depth curly p (on_name value more c)
  unfolding on_name
  name_sound more later p torn k = tt
  name_sound more later p (field tag name rest) k =
      if_equal (SaysItems depth curly p) tag 8
      (λ e. if_true (SaysItems depth curly p) (is_text name)
      (λ h. value_sound curly more later name p rest (text_label (text_told name k.small h)) (k.is ∙ ap (λ (x : ℕ). field_of x name ++ rest) e) (cut rest) (cut_whole rest k.later))
      (λ h. tt))
      (λ n. tt)

  item_sound : (b : Bracket) (more : List ℕ → Option Members) → ((r : List ℕ) → AllBelow 256 r → SaysItems depth b r (more r))
      → (p : List ℕ) → AllBelow 256 p → SaysItems depth b p (on_item b value more (cut p))
  item_sound square more later p small = value_sound square more later [] p p (record { nameless = refl; unwritten = refl }) refl (cut p) (cut_whole p small)
  item_sound curly more later p small = name_sound more later p (cut p) (cut_whole p small)

  ended_sound : (b : Bracket) (all : Option Members) (p : List ℕ) → SaysItems depth b p all → SaysItems depth b p (unless_ended all p)
  unfolding plain_items depth_all
  ended_sound b all [] s = record { packing = refl; labels = every_none Labelled Lexeme b; plainly = refl; shallow = omega arith }
  ended_sound b all (x ∷ xs) s = s

  items_sound : (b : Bracket) (turns : ℕ) (p : List ℕ) → AllBelow 256 p → SaysItems depth b p (items_of b value turns p)
  unfolding items_of
  items_sound b zero p small = ended_sound b none p tt
  items_sound b (suc turns) p small =
      ended_sound b _ p (item_sound b (λ rest. items_of b value turns rest) (λ r s. items_sound b turns r s) p small)

-- ---- values

box_sound : (depth tag : ℕ) (b : Bracket) (content : List ℕ) → bracket_kind b ≡ tag → (o : Option Members) → SaysItems depth b content o → Says (suc depth) tag content (boxes b o)
unfolding plain depth_in
box_sound depth tag b content e none s = tt
box_sound depth tag square content e (some ms) s =
    record { kinds = e; contents = s.packing; labels = s.labels; plainly = ap array s.plainly; shallow = omega (arith, s.shallow) }
box_sound depth tag curly content e (some ms) s =
    record { kinds = e; contents = s.packing; labels = s.labels; plainly = ap object s.plainly; shallow = omega (arith, s.shallow) }

value_is : (depth tag : ℕ) (content : List ℕ) → AllBelow 256 content → Says depth tag content (value_of depth tag content)
unfolding value_of value_by
value_is zero tag content small =
    if_equal (Says 0 tag content) tag 6 (λ e. tt) (λ n. if_equal (Says 0 tag content) tag 7 (λ e. tt) (λ m. simple_sound 0 tag content small))
value_is (suc depth) tag content small =
    if_equal (Says (suc depth) tag content) tag 6 (λ e. box_sound depth tag square content (sym e) (items_of square (value_of depth) (length content) content) (items_sound depth (value_of depth) (value_is depth) square (length content) content small))
    (λ n. if_equal (Says (suc depth) tag content) tag 7 (λ e. box_sound depth tag curly content (sym e) (items_of curly (value_of depth) (length content) content) (items_sound depth (value_of depth) (value_is depth) curly (length content) content small))
    (λ m. simple_sound (suc depth) tag content small))

-- ---- the whole

-- the bytes p pack d
pub record Found (depth : ℕ) (p : List ℕ) (d : Doc) : Type 0 where
  pub packing : packed d ≡ p
  pub labels : Every Labelled Lexeme d
  pub plainly : plain d ≡ d
  pub shallow : depth_in d ≤ depth
  pub fits : Fits d

pub doc_sound : (depth : ℕ) (p : List ℕ) → AllBelow 256 p → (d : Doc) → doc_in depth p ≡ some d → Found depth p d
unfolding doc_in on_root
doc_sound depth p small d h = go (cut p) (cut_whole p small) h
  where
    go : (c : Cut) → Cuts p c → on_root (value_of depth) c ≡ some d → Found depth p d
    go torn k e = let z : ◌≡◌ {A = ℕ} 0 1 = cc in absurd (omega arith)
    go (field tag content (x ∷ xs)) k e = let z : ◌≡◌ {A = ℕ} 0 1 = cc in absurd (omega arith)
    go (field tag content []) k e =
        let s : Sound depth tag content d = rw e at (value_is depth tag content k.small) in
        let narrow = k.narrow in
        record {
          packing = packed_field d ∙ ap₂ field_of s.kinds s.contents ∙ sym (append-nil (field_of tag content)) ∙ sym k.is;
          labels = s.labels;
          plainly = s.plainly;
          shallow = s.shallow;
          fits = omega (arith, widest_root d, ap length s.contents);
        }
