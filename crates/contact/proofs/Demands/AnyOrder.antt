-- A text that is read, and a JSON text that differs from it in the order of the entries of a PatchObject only: it is read too
-- (`reordered_readable`), if the one is a card so is the other (`order_card`), and if they are refused it is by one number (`order_number`); the place may
-- differ, as white space may. Cards are localized alike: one number, one key, one table and one output (`order_served`, `order_allowed`).
-- Assumes nothing.
use Rattle.std.specs.Prelude.{Result}
use Rattle.contact.specs.declared.LocalRefusal.{LocalRefusal}
use Prim.Native.Nat.{ℕ}
use mathlib.Core.Path.{◌≡◌, refl, sym, ap, ◌∙◌}
use mathlib.Core.Bool.{true}
use mathlib.Core.List.{List}
use lib.ListN.{length}
use native.Mathlib.Omega.{arith}
use lib.Dec.{eqb, ltb}
use Rattle.laws.proofs.Bools.{by_test}
use Rattle.text.specs.Limits.{Limits}
use Rattle.text.specs.Tree.{Forest, size}
use Rattle.text.specs.Reader.{good}
use Rattle.text.specs.Whole.{read_of}
use Rattle.text.specs.Grammar.{root_of}
use Rattle.text.specs.Doc.{Name, doc_of}
use Rattle.text.specs.Telling.{Tells}
use Rattle.text.specs.Meaning.{Accepts, Readable}
use Rattle.text.proofs.Promise.{promised}
use Rattle.text.proofs.Grammar.Accepted.{accepts}
use Rattle.text.proofs.Readable.{readable_good}
use Rattle.text.proofs.Telling.{told_size, told_depth, told_accepted}
use Rattle.contact.specs.Judge.{Breach, nothing, found, card_breach}
use Rattle.contact.specs.Verdict.{refused_fault, refused_card, paper_of_verdict, fault_of, Judged, passed, failed, by_breach, judged_read, judged_of, sheet_of_judged}
use Rattle.contact.specs.Localize.{refused_local, paper_of_localized, Outcome, start, by_judge, by_room, localized_of, answer_of_outcome, sheet_of_outcome, table_of_outcome, output_of_outcome}
use Rattle.contact.specs.Places.{key_place}
use Rattle.contact.specs.Contract.{Localizes}
use Rattle.contact.specs.Patching.{OrderOnly}
use Rattle.contact.specs.Judging.{CardText}
use Rattle.contact.specs.Services.{judge, localize, served}
use Rattle.text.specs.Sheet.{Within}
use Rattle.contact.specs.Demands.{Reordering, NamesKey, SameButPlace}
use Rattle.contact.proofs.Judging.{judging, read_documents, document_told, card_text, card_keeps}
use Rattle.contact.proofs.Patching.Faults.{breaks_there, from_22, up_to_26}
use Rattle.contact.proofs.Patching.Entering.{key_numbers}
use Rattle.contact.proofs.Patching.Places.{key_places}
use Rattle.contact.proofs.Patching.Together.{Patches, order_patches, SameFault, one_text, one_fault, order_of_texts}
use Rattle.contact.proofs.Demands.Reading.{card_passed}
use Rattle.contact.proofs.Patching.SameBreach.{order_breach}
use Rattle.contact.proofs.Patching.Rearranged.{order_count, order_depth, order_distinct}

-- the number of a fault doesn't depend on its place
fault_number : (n p q : ℕ) → (refused_fault (fault_of n p)).number ≡ (refused_fault (fault_of n q)).number
unfolding refused_fault fault_of
fault_number n p q =
    by_test (eqb n 11) (λ a. simp a)
    (λ a. by_test (eqb n 12) (λ b. simp (a, b))
    (λ b. by_test (eqb n 13) (λ c. simp (a, b, c)) (λ c. simp (a, b, c))))

breach_number : (f g : Forest) (b : Breach) → (sheet_of_judged (by_breach f b)).number ≡ (sheet_of_judged (by_breach g b)).number
unfolding sheet_of_judged paper_of_verdict by_breach refused_card
breach_number f g nothing = refl
breach_number f g (found row n) = fault_number n _ _

-- ---- the reordered text is read

module _ (L : Limits) (words : ℕ) (t u : List ℕ) (lang : Name) (f : Forest) (r : Readable L words t f) (o : Reordering L lang (doc_of t f) u) where
  abbrev g : Forest
  g = root_of o.derives

  reads : read_of L t ≡ good f (length t)
  reads = (accepts L t f).1 r.accepts

  -- it has as many values as the other, is as deep, and its names are distinct too
  accepted : Accepts L u g
  accepted =
      let told : Tells t f (doc_of t f) = document_told L words t f r in
      told_accepted L u o.derives o.document o.says
      (λ e. order_distinct lang (doc_of t f) o.document o.order ((promised L t f (length t) reads).distinct e)) o.short
      (omega (arith, order_depth lang (doc_of t f) o.document o.order, told_depth told, r.accepts.shallow))
      (omega (arith, order_count lang (doc_of t f) o.document o.order, told_size told, r.accepts.few))

  pub reordered_readable : Readable L words u g
  reordered_readable =
      let same : size g ≡ size f = omega (arith, order_count lang (doc_of t f) o.document o.order, told_size (document_told L words t f r), told_size o.says) in
      record { accepts = accepted; enough = rw same r.enough }

  pub reordered_only : OrderOnly lang (doc_of t f) (doc_of u g)
  reordered_only = rw ((read_documents L words u g reordered_readable o.document).0 o.says) at o.order

  -- ---- and judged alike

  pub order_number : (served L (judge t words)).answer.number ≡ (served L (judge u words)).answer.number
  unfolding served judged_of judged_read
  order_number =
      rw (readable_good L words t f r, readable_good L words u g reordered_readable, order_breach lang (doc_of t f) (doc_of u g) reordered_only)
      (breach_number f g (card_breach (doc_of u g)))

module _ (L : Limits) (words : ℕ) (t u : List ℕ) (lang : Name) (f : Forest) (c : CardText L words t f) (o : Reordering L lang (doc_of t f) u) where
  pub order_card : CardText L words u (root_of o.derives)
  order_card =
      let g = root_of o.derives in
      let same = order_breach lang (doc_of t f) (doc_of u g) (reordered_only L words t u lang f c.readable o) in
      card_text L words u g (reordered_readable L words t u lang f c.readable o)
      ((judging.keeps (doc_of u g)).0 (sym same ∙ (judging.keeps (doc_of t f)).1 (card_keeps L words t f c)))

-- ---- and localized alike

-- what is weighed is written, or refused by 27 or 28: no key is named
room_unnamed : (L : Limits) (words room : ℕ) (text : List ℕ) → ¬ NamesKey (sheet_of_outcome (by_room L words room text))
unfolding sheet_of_outcome answer_of_outcome paper_of_localized refused_local by_room by_judge
room_unnamed L words room text =
    by_test (ltb room (length text)) (λ b. rw b (λ k. omega arith)) (λ b. rw b (go (judged_of L words text)))
  where
    go : (j : Judged) → ¬ NamesKey (sheet_of_outcome (by_judge L words room text j))
    go (passed f) k = omega arith
    go (failed r) k = omega arith

module _ (L : Limits) (unique : L.unique ≡ true) (words room : ℕ) (t u : List ℕ) (lang : Name) (f : Forest)
    (c : CardText L words t f) (o : Reordering L lang (doc_of t f) u) where
  abbrev h : Forest
  h = root_of o.derives

  -- two outcomes that differ in nothing but the place of the key that they name
  record Alike (a b : Outcome) : Type 0 where
    pub but_place : SameButPlace lang t f u h (sheet_of_outcome a) (sheet_of_outcome b)
    pub unnamed : ¬ NamesKey (sheet_of_outcome a) → a ≡ b
    pub table : table_of_outcome words a ≡ table_of_outcome words b
    pub output : output_of_outcome room a ≡ output_of_outcome room b

  alike : (x : Patches lang (doc_of t f) (doc_of u h)) {a b : Outcome}
      → SameFault L words room (key_place t f lang) (key_place u h lang) (start (doc_of t f)) x.ones x.others a b → Alike a b
  unfolding sheet_of_outcome answer_of_outcome paper_of_localized table_of_outcome output_of_outcome
  alike x (one_text text) = record {
    but_place = record { number = refl; written = refl; second = λ n. refl; key = λ n. absurd (room_unnamed L words room text n) };
    unnamed = λ n. refl;
    table = refl;
    output = refl;
  }
  alike x (one_fault {n = n} {key = key} p q) =
      let i = key_numbers (key_place t f lang key) p in
      let j = key_numbers (key_place u h lang key) q in
      let named : Within 22 26 n = (from_22 (start (doc_of t f)) x.ones n key p, up_to_26 (start (doc_of t f)) x.ones n key p) in
      record {
        but_place = rw (i, j) (record {
          number = refl;
          written = refl;
          second = λ k. absurd (k named);
          key = λ k. (
            key,
            (key_places L unique words t f c lang x.ones x.patch key (breaks_there p) _).1 refl,
            (key_places L unique words u h (order_card L words t u lang f c o) lang x.others x.reordered key (breaks_there q) _).1 refl,
          );
        });
        unnamed = λ k. absurd (k (rw i named));
        table = refl;
        output = refl;
      }

  order_alike : Alike (localized_of L words room t lang) (localized_of L words room u lang)
  order_alike =
      let d = order_card L words t u lang f c o in
      let x = order_patches (doc_of t f) (doc_of u h) lang (reordered_only L words t u lang f c.readable o) in
      alike x (order_of_texts L words room t u lang f h (card_passed L words t f c) (card_passed L words u h d) x)

  pub order_served : SameButPlace lang t f u h (served L (localize t lang words room)).answer (served L (localize u lang words room)).answer
      × ((served L (localize t lang words room)).table ≡ (served L (localize u lang words room)).table)
      × ((served L (localize t lang words room)).output ≡ (served L (localize u lang words room)).output)
  unfolding served
  order_served = (order_alike.but_place, order_alike.table, order_alike.output)

  pub order_allowed : (a b : Result (ℕ × ℕ) LocalRefusal) (x y p q : List ℕ) → Localizes L words room t lang a x p → Localizes L words room u lang b y q
      → SameButPlace lang t f u h (paper_of_localized a) (paper_of_localized b) × (¬ NamesKey (paper_of_localized a) → a ≡ b) × (x ≡ y) × (p ≡ q)
  order_allowed a b x y p q l m = (
    rw (l.paper, m.paper) order_alike.but_place,
    λ n. l.answer ∙ ap answer_of_outcome (order_alike.unnamed (λ k. n (rw l.paper k))) ∙ sym m.answer,
    l.rows ∙ order_alike.table ∙ sym m.rows,
    l.bytes ∙ order_alike.output ∙ sym m.bytes,
  )
