-- Laws of values as they are written, field by field:
--     bare-so .. text-not       values that hold no others
--     part-whole                a text is its own part
--     ahead-none, ahead-field   what stands before a value, by its field
--     Onward, onward-start ..   the items of a container, one after the other
--     root-torn, root-rest ..   the whole packing
-- Assumes nothing.
use Rattle.std.specs.Prelude.{Some, None, Option}
use mathlib.Core.Path.{◌≡◌, refl, sym, ap, ◌∙◌}
use mathlib.Core.List.{List, [], ◌∷◌, ◌++◌, append_assoc, append-nil}
use mathlib.Core.Bool.{Bool, true, false, cond}
use mathlib.Core.Option.{Option as Maybe, none, some}
use Prim.Native.Nat.{ℕ, zero, suc, ◌-◌, ◌≤◌, ◌<◌}
use native.Mathlib.Nat.{sub-zero}
use native.Mathlib.Numerals.{sub-one}
use native.Mathlib.Decide.{ℕ_discrete}
use native.Mathlib.Omega.{arith}
use lib.ListN.{length}
use lib.Seq.{take-length}
use lib.Dec.{eqb}
use borrow.Author.Tests.{le-leb, eq-eqb, ne_eqb}
use Rattle.laws.specs.Lists.{part_of}
use Rattle.laws.proofs.Parts.{part_here, part_more}
use Rattle.text.specs.Tree.{Bracket, square, curly}
use Rattle.text.specs.Doc.{Name, Doc, scalar, Members, empty, member, boxed}
use Rattle.text.specs.Grammar.{opening, closing}
use Rattle.text.specs.Writing.{comma, written, written_entries, written_members, spelled}
use Rattle.output.specs.Written.{Wrote}
use Rattle.output.proofs.Bytes.{BytesLeft, left_all, left_on, left_as, left_last, wrote_then}
use Rattle.packing.specs.Fields.{Cut, torn, field, cut, is_text, is_number}
use Rattle.packing.specs.Unpacked.{bare, simple_of, joined, ValueReader, on_value, on_name, on_item, items_of, boxes, value_by, shut, value_of, on_root, doc_in}
use Rattle.packing.proofs.Turns.{items_in, items_step}
use Rattle.vault.specs.declared.cuts.Field.{Field}
use Rattle.vault.specs.Cuts.{FieldTo}
use Rattle.vault.specs.Laid.{bracket_of}
use Rattle.vault.specs.Values.{WroteDoc, Lead, colon, before_value, LeadsName, LeadsItem}

-- ---- values that hold no others

pub bare_so : (kind : ℕ) (word content : List ℕ) → length content ≡ 0 → bare kind word content ≡ some (scalar kind word)
bare_so kind word [] h = refl
bare_so kind word (x ∷ xs) h = absurd (omega arith)

pub bare_not : (kind : ℕ) (word content : List ℕ) → (length content ≡ 0 → ⊥) → bare kind word content ≡ none
bare_not kind word [] h = absurd (h refl)
bare_not kind word (x ∷ xs) h = refl

module _ (content : List ℕ) where
  pub number_so : is_number content ≡ true → simple_of 4 content ≡ some (scalar 4 content)
  unfolding simple_of
  number_so h = rw h

  pub number_not : is_number content ≡ false → simple_of 4 content ≡ none
  unfolding simple_of
  number_not h = rw h

  pub text_so : is_text content ≡ true → simple_of 5 content ≡ some (scalar 5 (spelled content))
  unfolding simple_of
  text_so h = rw h

  pub text_not : is_text content ≡ false → simple_of 5 content ≡ none
  unfolding simple_of
  text_not h = rw h

-- a text is its own part
pub part_whole : (w : List ℕ) → part_of w 0 (length w) ≡ w
unfolding part_of
part_whole w = rw (le-leb (length w) (length w) (omega arith), le-leb 0 (length w) (omega arith), sub-zero (length w)) (take-length w)

-- ---- values by their tags

module _ (tag : ℕ) (content : List ℕ) where
  -- by a value's tag and whatever reads what is inside
  simple_by : (inside : Bracket → List ℕ → Maybe Members) → (tag ≡ 6 → ⊥) → (tag ≡ 7 → ⊥) → value_by inside tag content ≡ simple_of tag content
  unfolding value_by
  simple_by inside h k = rw (ne_eqb tag 6 h, ne_eqb tag 7 k)

  box_by : (inside : Bracket → List ℕ → Maybe Members) → 6 ≤ tag → tag ≤ 7 → value_by inside tag content ≡ boxes (bracket_of tag) (inside (bracket_of tag) content)
  unfolding value_by
  box_by inside h k =
      elim (ℕ_discrete tag 7) [
        | yes e ↦ rw e
        | no n ↦ let e : tag ≡ 6 = omega arith in rw e
      ]

  pub value_simple : (depth : ℕ) → tag < 6 → value_of depth tag content ≡ simple_of tag content
  unfolding value_of
  value_simple zero h = simple_by shut (λ e. omega arith) (λ e. omega arith)
  value_simple (suc depth) h = simple_by (λ b c. items_of b (value_of depth) (length c) c) (λ e. omega arith) (λ e. omega arith)

  simple_none : 7 < tag → simple_of tag content ≡ none
  unfolding simple_of
  simple_none h =
      rw (ne_eqb tag 1 (λ e. omega arith), ne_eqb tag 2 (λ e. omega arith), ne_eqb tag 3 (λ e. omega arith), ne_eqb tag 4 (λ e. omega arith), ne_eqb tag 5 (λ e. omega arith))

  pub value_none : (depth : ℕ) → 7 < tag → value_of depth tag content ≡ none
  unfolding value_of
  value_none zero h = simple_by shut (λ e. omega arith) (λ e. omega arith) ∙ simple_none h
  value_none (suc depth) h = simple_by (λ b c. items_of b (value_of depth) (length c) c) (λ e. omega arith) (λ e. omega arith) ∙ simple_none h

  pub value_shut : 6 ≤ tag → tag ≤ 7 → value_of 0 tag content ≡ none
  unfolding value_of
  value_shut h k = box_by shut h k

  pub value_box : (depth : ℕ) → (depth ≡ 0 → ⊥) → 6 ≤ tag → tag ≤ 7
      → value_of depth tag content ≡ boxes (bracket_of tag) (items_in (bracket_of tag) (value_of (depth - 1)) content)
  unfolding value_of
  value_box zero n h k = absurd (n refl)
  value_box (suc depth) n h k = rw sub-one (box_by (λ b c. items_of b (value_of depth) (length c) c) h k)

-- ---- what stands before a value

module _ (p : List ℕ) (at end : ℕ) where
  -- no field
  pub name_torn : cut (part_of p at end) ≡ torn → (value : ValueReader) (more : List ℕ → Maybe Members) → on_name value more (cut (part_of p at end)) ≡ none
  unfolding on_name
  name_torn e value more = rw e

  module _ {n : Field} (f : FieldTo p at end n) where
    pub name_other : (n.tag ≡ 8 → ⊥) → (value : ValueReader) (more : List ℕ → Maybe Members) → on_name value more (cut (part_of p at end)) ≡ none
    unfolding on_name
    name_other other value more = rw (f.is, ne_eqb n.tag 8 other)

    abbrev name : Name
    name = part_of p n.from n.end

    pub name_ill : is_text name ≡ false → (value : ValueReader) (more : List ℕ → Maybe Members) → on_name value more (cut (part_of p at end)) ≡ none
    unfolding on_name
    name_ill h value more = rw (f.is, h) (go (eqb n.tag 8))
      where
        go : (b : Bool) → ◌≡◌ {A = Maybe Members} (cond b none none) none
        go true = refl
        go false = refl

    module _ (eight : n.tag ≡ 8) (good : is_text name ≡ true) where
      name_then : (value : ValueReader) (more : List ℕ → Maybe Members)
          → on_name value more (cut (part_of p at end)) ≡ on_value value more name (spelled name) (cut (part_of p n.end end))
      unfolding on_name
      name_then value more = rw (f.is, eq-eqb n.tag 8 eight, good)

      -- a good name, and no field behind it
      pub named_torn : cut (part_of p n.end end) ≡ torn → (value : ValueReader) (more : List ℕ → Maybe Members) → on_name value more (cut (part_of p at end)) ≡ none
      named_torn e value more = name_then value more ∙ ap (on_value value more name (spelled name)) e

      -- a good name, and then the field of the value
      pub named : {v : Field} → FieldTo p n.end end v → {old : List ℕ} {to : ℕ} {new : List ℕ} {q : ℕ} → Wrote old to (colon (spelled name)) new q
          → Lead on_name colon p at end old to new v q
      named k w =
          record {
            name = name;
            label = spelled name;
            is = λ value more. name_then value more ∙ ap (on_value value more name (spelled name)) k.is;
            later = omega (arith, f.start, f.from, k.start, k.from);
            inside = k.from;
            within = k.within;
            wrote = w;
          }

-- an object's items
pub heads_object : (p : List ℕ) (tag : ℕ) (first : Bool) (at end : ℕ) → tag ≡ 7 → {old : List ℕ} {to : ℕ} {mid : List ℕ} {q : ℕ} (new : List ℕ)
    → Wrote old to (comma first) mid q → (r : Option (Field × ℕ)) → LeadsName p at end mid q new r → LeadsItem p tag first at end old to new r
heads_object p tag first at end e new w (Some (f, q')) g =
    rw e (record {
      name = g.name;
      label = g.label;
      is = g.is;
      later = g.later;
      inside = g.inside;
      within = g.within;
      wrote = wrote_then (comma first) (colon g.label) w g.wrote;
    })
heads_object p tag first at end e new w None g = rw e g

-- an array's
module _ (p : List ℕ) (tag at end : ℕ) (n : tag ≡ 7 → ⊥) where
  pub heads_torn : cut (part_of p at end) ≡ torn → (value : ValueReader) (more : List ℕ → Maybe Members) → on_item (bracket_of tag) value more (cut (part_of p at end)) ≡ none
  heads_torn e value more = rw (ne_eqb tag 7 n) (ap (on_value value more [] []) e)

  pub heads_array : (first : Bool) {old : List ℕ} {to : ℕ} {new : List ℕ} {q : ℕ} → Wrote old to (comma first) new q → {f : Field} → FieldTo p at end f → LeadsItem p tag first at end old to new (Some (f, q))
  heads_array first w k =
      rw (ne_eqb tag 7 n) (record {
        name = [];
        label = [];
        is = λ value more. ap (on_value value more [] []) k.is;
        later = omega (arith, k.start, k.from);
        inside = k.from;
        within = k.within;
        wrote = rw append-nil w;
      })

-- ---- the items of a container

-- items as they are written, from here on, and the closing bracket
abbrev pub items_written : Bracket → Members → (first : Bool) → List ℕ
items_written square ms first = written_entries ms first
items_written curly ms first = written_members ms first

box_written : (b : Bracket) (ms : Members) → written (boxed b ms) ≡ opening b ∷ items_written b ms true
box_written square ms = refl
box_written curly ms = refl

items_none : (b : Bracket) (first : Bool) → items_written b empty first ≡ closing b ∷ []
items_none square first = refl
items_none curly first = refl

items_more : (b : Bracket) (n : Name) (label : List ℕ) (d : Doc) (ms : Members) (first : Bool)
    → items_written b (member n label d ms) first ≡ (comma first ++ before_value b label) ++ (written d ++ items_written b ms false)
items_more square n label d ms first = simp (append_assoc, append-nil)
items_more curly n label d ms first = simp append_assoc

module _ (p : List ℕ) (b : Bracket) (value : ValueReader) (from end : ℕ) where
  -- the items from a place on
  abbrev pub items_at : ℕ → Maybe Members
  items_at i = items_in b value (part_of p i end)

  -- all of them, if those from here on are `ms`, and their text, of which that of `ms` is left to write
  pub record Whole (old : List ℕ) (at : ℕ) (new : List ℕ) (q : ℕ) (first : Bool) (ms : Members) : Type 0 where
    pub all : Members
    pub is : items_at from ≡ some all
    pub left : BytesLeft old at (items_written b all true) new q (items_written b ms first)

  -- items were written up to a place
  pub record Onward (old : List ℕ) (at : ℕ) (new : List ℕ) (q i : ℕ) : Type 0 where
    pub low : from ≤ i
    pub high : i ≤ end
    pub nothing : items_at i ≡ none → items_at from ≡ none
    pub something : (ms : Members) → items_at i ≡ some ms → Whole old at new q (eqb i from) ms

  pub onward_start : from ≤ end → (old : List ℕ) (at : ℕ) → Onward old at old at from
  onward_start h old at =
      record {
        low = omega arith;
        high = h;
        nothing = λ e. e;
        something = λ ms e. record { all = ms; is = e; left = rw (eq-eqb from from refl) left_all };
      }

  -- one more item is there
  items_here : (i : ℕ) → i < end → end ≤ length p → items_at i ≡ on_item b value (items_in b value) (cut (part_of p i end))
  items_here i h l = items_step b value (part_of p i end) ∙ rw (part_more p i end h l)

  module _ (room : end ≤ length p) {old : List ℕ} {at : ℕ} {new : List ℕ} {q i : ℕ} (o : Onward old at new q i) (more : i < end) where
    -- no item stands here
    pub onward_none : ((v : ValueReader) (m : List ℕ → Maybe Members) → on_item b v m (cut (part_of p i end)) ≡ none) → items_at from ≡ none
    onward_none h = o.nothing (items_here i more room ∙ h value (items_in b value))

    module _ {f : Field} {to : ℕ} {mid : List ℕ} (l : Lead (on_item b) (λ label. comma (eqb i from) ++ before_value b label) p i end new q mid f to) where
      item : items_at i ≡ joined l.name l.label (value f.tag (part_of p f.from f.end)) (items_at f.end)
      item = items_here i more room ∙ l.is value (items_in b value)

      -- its value is none
      pub onward_bad : value f.tag (part_of p f.from f.end) ≡ none → items_at from ≡ none
      onward_bad e = o.nothing (item ∙ rw e)

      pub onward_on : {last : List ℕ} {r : ℕ} → WroteDoc (value f.tag (part_of p f.from f.end)) mid to last r → Onward old at last r f.end
      onward_on {last} {r} w =
          let d = w.doc in
          let n : eqb f.end from ≡ false = ne_eqb f.end from (λ e. omega (arith, l.later, o.low)) in
          record {
            low = omega (arith, l.later, o.low);
            high = l.within;
            nothing = λ e. o.nothing (item ∙ rw (w.is, e));
            something = λ ms e.
                let whole = o.something (member l.name l.label d ms) (item ∙ rw (w.is, e)) in
                let head = comma (eqb i from) ++ before_value b l.label in
                let rest = items_written b ms false in
                record {
                  all = whole.all;
                  is = whole.is;
                  left = rw n (left_on (written d) rest (left_on head (written d ++ rest) (left_as (items_more b l.name l.label d ms (eqb i from)) whole.left) l.wrote) w.wrote);
                };
          }

  -- all were written, and the closing bracket
  pub onward_end : end ≤ length p → {old : List ℕ} {at : ℕ} {new : List ℕ} {q i : ℕ} → Onward old at new q i → end ≤ i
      → {first last : List ℕ} {start r : ℕ} → Wrote first start (opening b ∷ []) old at → Wrote new q (closing b ∷ []) last r
      → WroteDoc (boxes b (items_at from)) first start last r
  onward_end room {i = i} o h opened closed =
      let e : i ≡ end = omega (arith, o.high) in
      let w = o.something empty (ap (λ (j : ℕ). items_in b value (part_of p j end)) e ∙ ap (items_in b value) (part_here p end) ∙ items_step b value []) in
      record {
        doc = boxed b w.all;
        is = ap (boxes b) w.is;
        wrote = rw (box_written b w.all)
            (wrote_then (opening b ∷ []) (items_written b w.all true) opened (left_last (closing b ∷ []) (left_as (items_none b (eqb i from)) w.left) closed));
      }

-- ---- the root

module _ (p : List ℕ) (depth : ℕ) where
  -- by the first field
  root : (c : Cut) → cut (part_of p 0 (length p)) ≡ c → doc_in depth p ≡ on_root (value_of depth) c
  unfolding doc_in
  root c e = ap (λ (w : List ℕ). on_root (value_of depth) (cut w)) (sym (part_whole p)) ∙ ap (on_root (value_of depth)) e

  pub root_torn : cut (part_of p 0 (length p)) ≡ torn → doc_in depth p ≡ none
  unfolding on_root
  root_torn e = root torn e

  module _ {f : Field} (k : FieldTo p 0 (length p) f) where
    -- bytes are left over
    pub root_rest : f.end < length p → doc_in depth p ≡ none
    unfolding on_root
    root_rest h = root _ k.is ∙ rw (part_more p f.end (length p) h (omega arith))

    pub root_value : length p ≤ f.end → doc_in depth p ≡ value_of depth f.tag (part_of p f.from f.end)
    unfolding on_root
    root_value h =
        let e : f.end ≡ length p = omega (arith, k.within) in
        root _ k.is
        ∙ ap (λ (w : List ℕ). on_root (value_of depth) (field f.tag (part_of p f.from f.end) w)) (ap (λ (i : ℕ). part_of p i (length p)) e ∙ part_here p (length p))
