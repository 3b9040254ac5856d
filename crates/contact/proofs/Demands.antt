-- The demands hold (specs/Demands.antt): `demands`, and with the limits of docs/RULES.md, 3.1, `base_demands`.
--     Sheet         the refusals and the lines of the sheet
--     Reading       demand 2
--     Localizing    demand 3
--     AnyOrder      judging and localizing, of the entries of a PatchObject in another order
--     Pieces        the measure of reading in pieces
--     Store         packing and unpacking beside reading
-- Assumes nothing.
pub mod Sheet
pub mod Reading
pub mod Localizing
pub mod AnyOrder
pub mod Pieces
pub mod Store
use Prim.Native.Nat.{ℕ, ◌-◌, ◌*◌, ◌≤◌}
use native.Mathlib.Nat.{sub-zero}
use native.Mathlib.Omega.{arith}
use mathlib.Core.Path.{◌≡◌, refl}
use mathlib.Core.Bool.{true}
use mathlib.Core.List.{List, []}
use lib.ListN.{length}
use Rattle.laws.specs.Lists.{filled}
use Rattle.laws.proofs.Orders.{before_earlier}
use Rattle.text.specs.Limits.{Limits, row_words, base}
use Rattle.text.specs.Tree.{Forest, size, tree_rows}
use Rattle.text.specs.Reader.{Read, good, bad}
use Rattle.text.specs.declared.Paper.{Paper}
use Rattle.text.specs.Sheet.{numbers}
use Rattle.text.specs.Whole.{whole_of, sheet_of, table_of}
use Rattle.text.specs.Doc.{Name, doc_of}
use Rattle.text.proofs.Lines.{text_line, refused_ends, accepted_ends}
use Rattle.text.proofs.Laws.{letters}
use Rattle.text.proofs.Outcomes.{same_outcome}
use Rattle.text.proofs.Spelling.Codes.{utf8_table}
use Rattle.text.proofs.NewNames.{spelled_name}
use Rattle.text.proofs.Rows.{row_filled, one_value}
use Rattle.text.proofs.Promise.{tree_length, whole_good}
use Rattle.wire.specs.Service.{wired}
use Rattle.wire.proofs.Promise.{in_pieces}
use Rattle.packing.specs.Services.{vaulted}
use Rattle.packing.proofs.Promise.{stores_cards}
use Rattle.packing.proofs.Determined.{one_vault}
use Rattle.contact.specs.Verdict.{Judged, passed, failed, judged_of, sheet_of_judged, table_of_judged, paper_of_verdict}
use Rattle.contact.specs.Localize.{Outcome, done, denied, localized_of, sheet_of_outcome, table_of_outcome, output_of_outcome, answer_of_outcome, paper_of_localized}
use Rattle.contact.specs.Places.{key_place}
use Rattle.contact.specs.Services.{Call, read, judge, localize, words_of, room_of, leaves, served}
use Rattle.contact.specs.Demands.{Ends, Demands}
use Rattle.contact.proofs.Judging.{judging, read_documents}
use Rattle.contact.proofs.Judging.Signatures.{as_signed}
use Rattle.contact.proofs.Judging.Shown.{value_seen}
use Rattle.contact.proofs.Patching.Pointers.{key_iff}
use Rattle.contact.proofs.Patching.Start.{patch_iff}
use Rattle.contact.proofs.Patching.Ways.{find_iff}
use Rattle.contact.proofs.Patching.Asked.{one_asking}
use Rattle.contact.proofs.Patching.Refused.{accepted_iff}
use Rattle.contact.proofs.Patching.Places.{key_places, key_of_place}
use Rattle.contact.proofs.Patching.Contract.{one_outcome, output_fits}
use Rattle.contact.proofs.Patching.Readback.{passed_text}
use Rattle.contact.proofs.Demands.Sheet.{card_line, local_line}
use Rattle.contact.proofs.Demands.Reading.{card_passed, passed_card, read_passes, read_rows, read_describes, read_words, read_long, read_fault, read_short, judge_unread, judge_passes, judge_rows, judge_offends}
use Rattle.contact.proofs.Demands.AnyOrder.{order_number, order_served, order_allowed}
use Rattle.contact.proofs.Demands.Pieces.{pieces_as_read, pieces_rows}
use Rattle.contact.proofs.Demands.Store.{store_unread, store_own, store_rows, store_read}
use Rattle.contact.proofs.Demands.Localizing.{of_doc, localize_own, localize_patched, localize_accepted, localize_would, localize_refused, localize_key, refused_answer, localize_again, localize_room, localize_inner}

-- ---- demand 1

module _ (L : Limits) (unique : L.unique ≡ true) where
  -- rows that have room
  rows_fit : (words : ℕ) (f : Forest) → row_words * size f ≤ words → length (tree_rows f) ≤ words
  rows_fit words f l = omega (arith, tree_length f)

  read_ends : (t : List ℕ) (words : ℕ) → Ends (read t words) (served L (read t words))
  unfolding served sheet_of table_of
  read_ends t words = go (whole_of L words t) refl
    where
      go : (R : Read) → whole_of L words t ≡ R → Ends (read t words) (leaves (sheet_of R) (table_of words R) [])
      go (bad r) e = refused_ends words 0 (text_line r)
      go (good f to) e = accepted_ends words 0 (tree_rows f) [] (size f) (tree_length f) (rows_fit words f (whole_good L words t f to e).room) (omega arith)

  judge_ends : (t : List ℕ) (words : ℕ) → Ends (judge t words) (served L (judge t words))
  unfolding served sheet_of_judged paper_of_verdict table_of_judged
  judge_ends t words = go (judged_of L words t) refl
    where
      go : (j : Judged) → judged_of L words t ≡ j → Ends (judge t words) (leaves (sheet_of_judged j) (table_of_judged words j) [])
      go (failed r) e = refused_ends words 0 (card_line r)
      go (passed f) e =
          let (to, whole, keeps) = (judging.accepted L words t f).0 e in
          accepted_ends words 0 (tree_rows f) [] (size f) (tree_length f) (rows_fit words f (whole_good L words t f to whole).room) (omega arith)

  localize_ends : (t : List ℕ) (lang : Name) (words room : ℕ) → Ends (localize t lang words room) (served L (localize t lang words room))
  unfolding served sheet_of_outcome paper_of_localized answer_of_outcome table_of_outcome output_of_outcome
  localize_ends t lang words room = go (localized_of L words room t lang) refl
    where
      go : (o : Outcome) → localized_of L words room t lang ≡ o
          → Ends (localize t lang words room) (leaves (sheet_of_outcome o) (table_of_outcome words o) (output_of_outcome room o))
      go (denied r) e = refused_ends words room (local_line r)
      go (done text g) e =
          let (f, pass) = passed_text L words room unique t lang (done text g) e (λ r z. let n : ◌≡◌ {A = ℕ} 0 1 = cc in omega arith) in
          let a = (accepted_iff L words room (key_place t f lang) (doc_of t f) lang text g).0 (of_doc L unique words room t lang f pass (done text g) e) in
          let c = passed_card L words text g a.accepted.reads in
          accepted_ends words room (tree_rows g) text (size g) (tree_length g) (rows_fit words g c.readable.enough)
          (output_fits L words room (key_place t f lang) (doc_of t f) lang text g (of_doc L unique words room t lang f pass (done text g) e))

  all_ends : (c : Call) → Ends c (served L c)
  all_ends (read t words) = read_ends t words
  all_ends (judge t words) = judge_ends t words
  all_ends (localize t lang words room) = localize_ends t lang words room

  -- ---- all of them

  pub demands : Demands L (served L) (wired L) (vaulted L)
  unfolding served
  demands = record {
    every_call = record {
      ends = all_ends;
      one_reading = same_outcome L;
      one_judging = judging.one_outcome L;
      one_localizing = λ words room t lang a b x y o q p r. one_outcome p r;
    };
    reading_and_judging = record {
      accepts = λ t words. read_passes L words t;
      rows = λ t words. read_rows L words t;
      describe = λ t words. read_describes L words t;
      each_row = λ t words. read_words L words t;
      each_value = λ f k l. let v = row_filled f k l in (v.seat, v.head, v.there, v.row);
      one_value = one_value;
      documents = λ t words. read_documents L words t;
      utf8_table = utf8_table;
      too_long = λ t words. read_long L words t;
      first_fault = λ t within words. read_fault L words t within;
      rows_short = λ t words. read_short L words t;
      unread = λ t words. judge_unread L words t;
      passes = λ t words. judge_passes L words t;
      card_rows = λ t words. judge_rows L words t;
      offends = λ t words. judge_offends L words t;
      seen = value_seen;
      letters = letters;
      signed = as_signed;
    };
    localizing = record {
      own = λ t lang words room. localize_own L unique words room t lang;
      order_judged = λ t u lang words f r o. order_number L words t u lang f r o;
      any_order = λ t u lang words room f c o. order_served L unique words room t u lang f c o;
      any_order_allowed = λ t u lang words room f c o. order_allowed L unique words room t u lang f c o;
      patched = λ t lang words room f c. localize_patched L unique words room t lang f (card_passed L words t f c);
      accepted = λ t lang words room f c. localize_accepted L unique words room t lang f (card_passed L words t f c);
      refused = λ t lang words room f c. localize_refused L unique words room t lang f (card_passed L words t f c);
      refused_answer = λ t lang words room f c. refused_answer L unique words room t lang f (card_passed L words t f c);
      key_at_fault = λ t lang words room f c. localize_key L unique words room t lang f (card_passed L words t f c) c;
      key_places = λ t lang words f c. key_places L unique words t f c lang;
      key_of_place = λ t lang words f c. key_of_place L unique words t f c lang;
      language = patch_iff;
      keys = λ key. key_iff key;
      asking = λ ms es fs x y. one_asking x y;
      finding = find_iff;
      byte_order = before_earlier;
      new_names = spelled_name;
      would_be = λ t lang words f c. localize_would L unique words t lang f (card_passed L words t f c);
      room_enough = λ t lang words room. localize_room L unique words room t lang;
      judged_again = λ t lang words room f c. localize_again L unique words room t lang f (card_passed L words t f c);
      inner = λ t lang words room. localize_inner L unique words room t lang;
    };
    reading_in_pieces = record {
      as_read = λ t words. pieces_as_read L t words;
      rows_aside = λ t words. pieces_rows L t words;
      in_pieces = in_pieces L;
    };
    packing_for_the_store = record {
      unread = store_unread L;
      else_own = store_own L;
      rows = store_rows L unique;
      read_back = store_read L unique;
      stores = stores_cards L unique;
      one_vault = one_vault L unique;
    };
  }

-- with the limits of docs/RULES.md, 3.1
pub base_demands : Demands base (served base) (wired base) (vaulted base)
base_demands = demands base refl
