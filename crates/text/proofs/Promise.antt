-- The reading layer's promise: the one file on which the layers above rely. What is passed on here is all that they may ask of a text that was read.
--
-- An answer and a table that meet reading's contract (`Reads`, specs/Whole.antt):
--     rows-tree             after `Ok n`    there is one tree of n values whose rows are the table's first n (`Filled`, specs/Promised.antt): one root,
--                           that stands in the text (`Placed`, specs/Placed.antt), names distinct, limits kept; and the rows name their parents and
--                           next siblings (`Kinship`, specs/Kin.antt)
--     refusal_is            after `Err r` the definition refuses with r, and the table is zero
--     whole-bad             what is refused of the text is refused whatever the table's room
--     paper-unique, answer-is, same_outcome      the answer and the table are determined
--
-- The values that stand in a table from a row on, first value first (specs/Standing.antt, specs/Firsts.antt):
--     first-row             its words: kind, name start and end, start and end, number of values below
--     first-room            its row and those of the values below it are inside the table
--     inside                what is inside it stands from the next row on, `below` rows
--     next, after, within   what follows it stands `below + 1` rows further, and ends before the same row
--     alone                 it (`first_of`) stands there by itself, whatever follows
--     some_at, none-at      there is a value before the end of the rows, and none at it
--     start-at              the start of each value, by its row
--     stands-unique         a table has one tree only
--     tree-length           eight words to a value
--
-- The same values in the text:
--     spot                  its name's places, that it is not empty and inside the text; its first byte begins its kind
--     no-name-at            elements and the root have the name 0, 0
--     placed-kinds          values that hold no others have kinds 1 to 5
--
-- The document of a text and its tree (specs/Doc.antt):
--     doc-kind, doc-token, doc-scalar, doc-below, doc-array, doc-object      its kind, token and parts are those of the row
--     members-first, members-none      the members, one value after the other
--     content-part, label-part         the content of a string and a name as written are parts of the text
--     count-root, count-doc, count-members      it has as many values as the tree
--
-- Names as they are written:
--     tail-is               what is decoded from a place on is what is decoded of the bytes from there on alone
--     same-yes, same-no, escape-char      names that are compared; an escape is one or more bytes long
-- Assumes nothing.
use Rattle.std.specs.Prelude.{Ok, Err}
use Prim.Native.Nat.{ℕ, ◌*◌, ◌≤◌}
use mathlib.Core.Path.{◌≡◌, refl, ap, ◌∙◌}
use mathlib.Core.List.{List, []}
use mathlib.Core.Bool.{Bool, true, false, cond}
use native.Mathlib.Omega.{arith}
use lib.Dec.{ltb}
use borrow.Author.Tests.{ltb-false}
use Rattle.laws.specs.Lists.{filled}
use Rattle.text.specs.Limits.{Limits, row_words}
use Rattle.text.specs.Tree.{Forest, size}
use Rattle.text.specs.Standing.{StandsTo}
use Rattle.text.specs.Promised.{Promised, Filled}
use Rattle.text.specs.Reader.{Read, good, bad}
use Rattle.text.specs.Tokens.{skip}
use Rattle.text.specs.Whole.{read_of, fit_of, whole_of, table_of, Reads}
use Rattle.text.specs.declared.Refusal.{Refusal}
use Rattle.text.specs.declared.Refusal.TheVariants.{Small}
use Rattle.text.proofs.Induction.{read_accepted}
use Rattle.text.proofs.Fewer.{value_fits}
use Rattle.text.proofs.Placing.{placed_text, single_value}
use Rattle.text.proofs.Documents.{distinct_names}
use Rattle.text.proofs.Standing.{LinkedAt}
use Rattle.text.proofs.Kin.{kinship}
pub use Rattle.text.proofs.Fewer.{whole_bad}
pub use Rattle.text.proofs.Outcomes.{paper_unique, answer_of, answer_is, same_outcome}
pub use Rattle.text.proofs.Standing.{
  tree_length,
  first_of,
  first_row_lem,
  first_room,
  inside,
  next,
  alone,
  first_and_rest,
  after,
  within,
  some_at,
  none_at,
  stands_unique,
  filled_stands,
  filled_linked,
  table_stands,
  table_linked,
  start_at_lem,
}
pub use Rattle.text.proofs.Placing.{
  token_kind,
  placed_kinds,
  spot,
  no_name_at,
}
pub use Rattle.text.proofs.Documents.{
  doc_kind,
  doc_token,
  doc_scalar,
  doc_below,
  doc_array,
  doc_object,
  members_first,
  members_none,
  content_part,
  label_part,
  count_members,
  count_doc,
  count_root,
}
pub use Rattle.text.proofs.Tails.{tail_is}
pub use Rattle.text.proofs.Names.{same_yes, same_no}
pub use Rattle.text.proofs.Walks.{escape_char}

-- ---- a text that is read ----

pub promised : (L : Limits) (t : List ℕ) (f : Forest) (to : ℕ) → read_of L t ≡ good f to → Promised L t f
promised L t f to e =
    let a = read_accepted L t f to e in
    let one = single_value L t L.depth 0 0 (skip t 0) 0 f a.end a.value in
    let count = value_fits L t L.depth 0 0 (skip t 0) 0 f a.end a.value in
    record {
      some = one.some;
      alone = one.alone;
      placed = placed_text L t f to e;
      distinct = λ u. distinct_names L t u f to e;
      short = a.short;
      few = omega arith;
    }

-- ---- a text that is read for a table ----

-- it is read, and the rows have room
pub record Fits (L : Limits) (words : ℕ) (t : List ℕ) (f : Forest) (to : ℕ) : Type 0 where
  pub read : read_of L t ≡ good f to
  pub room : row_words * size f ≤ words

pub whole_good : (L : Limits) (words : ℕ) (t : List ℕ) (f : Forest) (to : ℕ) → whole_of L words t ≡ good f to → Fits L words t f to
unfolding whole_of fit_of
whole_good L words t f to e = go (read_of L t) refl e
  where
    fit : (g : Forest) (end : ℕ) → read_of L t ≡ good g end → (x : Bool) → ltb words (row_words * size g) ≡ x
        → cond x (bad (Small (size g))) (good g end) ≡ good f to → Fits L words t f to
    fit g end h true l p = let z : ◌≡◌ {A = ℕ} 0 1 = cc in absurd (omega arith)
    fit g end h false l p =
        let same : g ≡ f = cc in
        let room = ltb-false words (row_words * size g) l in
        record { read = h ∙ p; room = rw (← same) room }

    go : (r : Read) → read_of L t ≡ r → fit_of words r ≡ good f to → Fits L words t f to
    go (bad r) h q = let z : ◌≡◌ {A = ℕ} 0 1 = cc in absurd (omega arith)
    go (good g end) h q = fit g end h (ltb words (row_words * size g)) refl q

-- a table that has the rows of a tree, and their links
pub fills : {L : Limits} {t table : List ℕ} {n : ℕ} {f : Forest} → Promised L t f → StandsTo table 0 n f → LinkedAt table 0 0 0 f → Filled L t table n f
fills {table = table} {f = f} p s l = record { promised = p; stands = s; kin = kinship table f p.alone l s.stands }

-- an answer and a table that meet reading's contract
module _ (L : Limits) (words : ℕ) (t table : List ℕ) where
  -- accepted: the tree, and what is promised of it
  pub record AcceptedWhole (n : ℕ) : Type 0 where
    pub tree : Forest
    pub end : ℕ
    pub whole : whole_of L words t ≡ good tree end
    pub count : size tree ≡ n
    pub room : row_words * n ≤ words
    pub filled_by : Filled L t table n tree

  tabled : (f : Forest) (to : ℕ) → table ≡ table_of words (whole_of L words t) → whole_of L words t ≡ good f to → AcceptedWhole (size f)
  tabled f to is w =
      let fits = whole_good L words t f to w in
      let own = is ∙ ap (table_of words) w in
      record {
        tree = f;
        end = to;
        whole = w;
        count = refl;
        room = fits.room;
        filled_by = fills (promised L t f to fits.read) (table_stands words f to own) (table_linked words f to own);
      }

  pub rows_tree : (n : ℕ) → Reads L words t (Ok n) table → AcceptedWhole n
  rows_tree n h = go (whole_of L words t) refl (answer_is (Ok n) (whole_of L words t) h.answered)
    where
      go : (r : Read) → whole_of L words t ≡ r → Ok n ≡ answer_of (whole_of L words t) → AcceptedWhole n
      go (good f to) w q =
          let answer : Ok n ≡ Ok (size f) = q ∙ ap answer_of w in
          let same : n ≡ size f = cc in
          rw same (tabled f to h.left w)
      go (bad r) w q =
          let answer : Ok n ≡ Err r = q ∙ ap answer_of w in
          let z : ◌≡◌ {A = ℕ} 0 1 = cc in
          absurd (omega arith)

  -- refused: the definition refuses so, and the table is zero
  pub record RefusedWhole (r : Refusal) : Type 0 where
    pub whole : whole_of L words t ≡ bad r
    pub cleared : table ≡ filled words []

  pub refusal_is : (r : Refusal) → Reads L words t (Err r) table → RefusedWhole r
  unfolding table_of
  refusal_is r h = go (whole_of L words t) refl (answer_is (Err r) (whole_of L words t) h.answered)
    where
      go : (R : Read) → whole_of L words t ≡ R → Err r ≡ answer_of (whole_of L words t) → RefusedWhole r
      go (good f to) w q =
          let answer : Err r ≡ Ok (size f) = q ∙ ap answer_of w in
          let z : ◌≡◌ {A = ℕ} 0 1 = cc in
          absurd (omega arith)
      go (bad s) w q =
          let answer : Err r ≡ Err s = q ∙ ap answer_of w in
          let same : s ≡ r = cc in
          record { whole = w ∙ ap bad same; cleared = h.left ∙ ap (table_of words) w }
