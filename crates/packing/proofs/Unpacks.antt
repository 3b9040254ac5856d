-- What unpacking bytes answers and leaves (specs/Promise.antt), by what the bytes are: `view`, and back from there. Assumes nothing.
use mathlib.Core.Path.{◌≡◌, refl, sym, ap, subst, ◌∙◌}
use mathlib.Core.List.{List, []}
use mathlib.Core.Bool.{true}
use mathlib.Core.Logic.{◌↔◌}
use mathlib.Core.Option.{Option, none, some}
use Prim.Native.Nat.{ℕ, ◌-◌, ◌*◌, ◌≤◌, ◌<◌}
use native.Mathlib.Nat.{sub-zero}
use native.Mathlib.Omega.{arith}
use lib.ListN.{length}
use borrow.Author.Tests.{le-ltb, lt-ltb}
use Rattle.laws.specs.Lists.{filled}
use Rattle.laws.proofs.Bounds.{each_below}
use Rattle.laws.proofs.Branches.{if_less}
use Rattle.text.specs.Limits.{Limits, row_words}
use Rattle.text.specs.Text.{Bytes}
use Rattle.text.specs.Tree.{Forest, size}
use Rattle.text.specs.Sheet.{numbers, Left, leaves}
use Rattle.text.specs.Meaning.{Accepts, Readable}
use Rattle.text.specs.Doc.{Doc, doc_of, count_of}
use Rattle.text.specs.Labels.{Every}
use Rattle.text.specs.Writing.{written, SpelledName}
use Rattle.text.proofs.Lines.{same_number, same_second}
use Rattle.packing.specs.Format.{PackedAs}
use Rattle.packing.specs.Values.{SameValue, SpelledToken, plain}
use Rattle.packing.specs.Unpacked.{unpacked}
use Rattle.packing.specs.Unpackable.{Unpackable}
use Rattle.packing.specs.Services.{Restored, restored, not_packed, unpack_doc, unpack_of, answer_of_restored, paper_of_unpacking, output_of_restored, packed_by, unpacked_by, vaulted}
use Rattle.packing.specs.Services as services
use Rattle.packing.specs.Promise.{Accepted, written_in, UnpackEnds, acceptance, refusal, Packable, CompactText, GivesBack}
use Rattle.packing.proofs.Format.{packed_told, packed_so}
use Rattle.packing.proofs.Plain.{plain_same, plain_count, plain_spelled, spelled_plain}
use Rattle.packing.proofs.Room.{six_fold}
use Rattle.packing.proofs.Texts.{text_labels, text_count, text_plain, text_unpacked, back_again, one_plain}
use Rattle.packing.proofs.Packs.{taken, text_bytes, packing_so, wrote}

-- how unpacking ends, of what it leaves; whatever the bytes are
pub unpack_ends_so : (L : Limits) (p : List ℕ) (room : ℕ) → UnpackEnds room (unpacked_by L p room)
unfolding unpacked_by unpack_of unpack_doc answer_of_restored paper_of_unpacking output_of_restored
unpack_ends_so L p room = go (unpacked L p)
  where
    Ends : Restored → Type 0
    Ends k = UnpackEnds room (leaves (paper_of_unpacking (answer_of_restored k)) [] (output_of_restored room k))

    go : (o : Option Doc) → Ends (unpack_doc room o)
    go none = rw (sub-zero room) (refusal {number = 53} {second = 0} (omega arith))
    go (some d) =
        if_less Ends room (length (written d)) (λ l. rw (sub-zero room) (refusal {number = 52} {second = length (written d)} (omega arith)))
        (λ l. acceptance (count_of d) (written d) (room - length (written d)) (omega arith))

module _ (L : Limits) where
  -- ---- compact texts

  -- a document that is unpacked has a compact text
  pub record Found (p : List ℕ) (d : Doc) : Type 0 where
    pub tree : Forest
    pub compact : CompactText L p (written d) tree
    pub says : doc_of (written d) tree ≡ d

  pub found : (p : List ℕ) → Bytes p → (d : Doc) → unpacked L p ≡ some d → Found p d
  found p small d e =
      let b = back_again L p (each_below small) d e in
      let packing : PackedAs d p = subst (PackedAs d) b.packing (packed_so d b.labels b.fits) in
      let spelling : Every SpelledName SpelledToken d = subst (Every SpelledName SpelledToken) b.plainly (plain_spelled d b.labels) in
      record {
        tree = b.tree;
        compact =
            record {
              accepted = b.accepted;
              packing = rw b.says packing;
              tight = ap written (sym b.says);
              spelling = rw b.says spelling;
            };
        says = b.says;
      }

  -- a compact text is the text of the document that it says, which is its own
  own : {p t : List ℕ} {f : Forest} → CompactText L p t f → plain (doc_of t f) ≡ doc_of t f
  own {p} {t} {f} c = spelled_plain (doc_of t f) c.spelling

  pub text_room_so : (p t : List ℕ) (f : Forest) → CompactText L p t f → length t ≤ 6 * length p
  text_room_so p t f c =
      let (fits, e) = packed_told (doc_of t f) p c.packing in
      omega (arith, six_fold (doc_of t f) (text_labels L t f c.accepted), ap length e, ap (λ (d : Doc). length (written d)) (own c), ap length c.tight)

  pub shortest_so : (p t : List ℕ) (f : Forest) → CompactText L p t f → (M : Limits) (u : List ℕ) (g : Forest) → Accepts M u g
      → SameValue (doc_of t f) (doc_of u g) → length t ≤ length u
  shortest_so p t f c M u g a s =
      let e : written (plain (doc_of u g)) ≡ t = ap written (sym (one_plain (doc_of t f) (doc_of u g) (text_labels L t f c.accepted) (text_labels M u g a) s) ∙ own c) ∙ sym c.tight in
      omega (arith, text_plain M u g a, ap length e)

  module _ (unique : L.unique ≡ true) where
    compact_found : (p t : List ℕ) (f : Forest) → CompactText L p t f → unpacked L p ≡ some (doc_of t f)
    compact_found p t f c =
        ap (unpacked L) (packed_told (doc_of t f) p c.packing).1 ∙ text_unpacked L t f c.accepted unique ∙ ap some (own c)

    pub one_text_so : (p t u : List ℕ) (f g : Forest) → CompactText L p t f → CompactText L p u g → t ≡ u
    one_text_so p t u f g c b =
        let z : some (doc_of t f) ≡ some (doc_of u g) = sym (compact_found p t f c) ∙ compact_found p u g b in
        let same : doc_of t f ≡ doc_of u g = cc in
        c.tight ∙ ap written same ∙ sym b.tight

    pub compact_so : (p : List ℕ) → Unpackable L p → (t : List ℕ) × (f : Forest) × CompactText L p t f
    compact_so p u =
        let small = text_bytes L u.text u.tree u.accepted p u.packing in
        let e = (packed_told (doc_of u.text u.tree) p u.packing).1 in
        let d = plain (doc_of u.text u.tree) in
        let k = found p small d (ap (unpacked L) e ∙ text_unpacked L u.text u.tree u.accepted unique) in
        (written d, k.tree, k.compact)

    module _ (p : List ℕ) (room : ℕ) where
      -- ---- by what the bytes are

      pub data View : Restored → Type 0 where
        nothing : (Unpackable L p → ⊥) → View not_packed
        short : {t : List ℕ} {f : Forest} → CompactText L p t f → room < length t → View (services.short (length t))
        fine : {t : List ℕ} {f : Forest} → CompactText L p t f → length t ≤ room → View (restored (size f) t)

      pub view : Bytes p → View (unpack_of L room p)
      unfolding unpack_of unpack_doc
      view small = go (unpacked L p) refl
        where
          go : (o : Option Doc) → unpacked L p ≡ o → View (unpack_doc room o)
          go none e = nothing (λ u. let (t, f, c) = compact_so p u in let z : none ≡ some (doc_of t f) = sym e ∙ compact_found p t f c in let n : ◌≡◌ {A = ℕ} 0 1 = cc in omega arith)
          go (some d) e =
              let k = found p small d e in
              let count : count_of d ≡ size k.tree = ap count_of (sym k.says) ∙ text_count L (written d) k.tree k.compact.accepted in
              if_less View room (length (written d)) (λ l. short k.compact l) (λ l. rw count (fine k.compact l))

      module _ {t : List ℕ} {f : Forest} (c : CompactText L p t f) where
        short_so : room < length t → unpack_of L room p ≡ services.short (length t)
        unfolding unpack_of unpack_doc
        short_so l =
            let e : written (doc_of t f) ≡ t = sym c.tight in
            rw (compact_found p t f c, e, lt-ltb room (length t) l)

        fine_so : length t ≤ room → unpack_of L room p ≡ restored (size f) t
        unfolding unpack_of unpack_doc
        fine_so l =
            let e : written (doc_of t f) ≡ t = sym c.tight in
            rw (compact_found p t f c, e, le-ltb room (length t) l, text_count L t f c.accepted)

      nothing_so : Bytes p → (Unpackable L p → ⊥) → unpack_of L room p ≡ not_packed
      nothing_so small n = go (view small)
        where
          able : {t : List ℕ} {f : Forest} → CompactText L p t f → Unpackable L p
          able {t} {f} c = record { text = t; tree = f; accepted = c.accepted; packing = c.packing }

          go : {k : Restored} → View k → k ≡ not_packed
          go (nothing h) = refl
          go (short c l) = absurd (n (able c))
          go (fine c l) = absurd (n (able c))

      -- ---- on paper

      pub unpacking_so : (t : List ℕ) (f : Forest) → CompactText L p t f → length t ≤ room
          → unpacked_by L p room ≡ leaves (numbers 0 (size f) (length t)) [] (filled room t)
      unfolding unpacked_by answer_of_restored paper_of_unpacking output_of_restored
      unpacking_so t f c l = rw (fine_so c l)

      pub unpacks_so : Bytes p → Accepted (unpacked_by L p room) ↔ ((t : List ℕ) × (f : Forest) × CompactText L p t f × (length t ≤ room))
      unfolding unpacked_by answer_of_restored paper_of_unpacking
      unpacks_so small = (λ e. go (view small) e, λ (t, f, c, l). rw (fine_so c l))
        where
          go : {k : Restored} → View k → (paper_of_unpacking (answer_of_restored k)).number ≡ 0 → (t : List ℕ) × (f : Forest) × CompactText L p t f × (length t ≤ room)
          go (nothing h) e = absurd (omega arith)
          go (short c l) e = absurd (omega arith)
          go (fine {t} {f} c l) e = (t, f, c, l)

      pub not_packed_so : Bytes p → (second : ℕ) → ((unpacked_by L p room).answer ≡ numbers 53 second 0) ↔ ((second ≡ 0) × (Unpackable L p → ⊥))
      unfolding unpacked_by answer_of_restored paper_of_unpacking
      not_packed_so small second = (λ e. go (view small) e, λ (z, n). rw (nothing_so small n, z))
        where
          go : {k : Restored} → View k → paper_of_unpacking (answer_of_restored k) ≡ numbers 53 second 0 → (second ≡ 0) × (Unpackable L p → ⊥)
          go (nothing h) e = (sym (same_second e), h)
          go (short c l) e = absurd (omega (arith, same_number e))
          go (fine c l) e = absurd (omega (arith, same_number e))

      pub text_short_so : Bytes p → (n : ℕ) → ((unpacked_by L p room).answer ≡ numbers 52 n 0)
          ↔ ((t : List ℕ) × (f : Forest) × CompactText L p t f × (n ≡ length t) × (room < n))
      unfolding unpacked_by answer_of_restored paper_of_unpacking
      text_short_so small n = (λ e. go (view small) e, λ (t, f, c, z, l). let m : room < length t = omega arith in rw (short_so c m, z))
        where
          go : {k : Restored} → View k → paper_of_unpacking (answer_of_restored k) ≡ numbers 52 n 0
              → (t : List ℕ) × (f : Forest) × CompactText L p t f × (n ≡ length t) × (room < n)
          go (nothing h) e = absurd (omega (arith, same_number e))
          go (short {t} {f} c l) e = let z : length t ≡ n = same_second e in (t, f, c, sym z, omega arith)
          go (fine c l) e = absurd (omega (arith, same_number e))

    -- ---- there and back

    pub gives_back_so : (t : List ℕ) (words room : ℕ) (f : Forest) → Readable L words t f → Accepted (packed_by L t words room) → (room' : ℕ) → length t ≤ room'
        → GivesBack L (vaulted L) t f (written_in (packed_by L t words room)) room'
    gives_back_so t words room f r e room' l = go (written_in (packed_by L t words room)) (wrote L t words room f r e)
      where
        go : (p : List ℕ) → Packable L words t f p → GivesBack L (vaulted L) t f p room'
        go p k =
            let a = r.accepts in
            let d = doc_of t f in
            let small = text_bytes L t f a p k.packing in
            let w = found p small (plain d) (ap (unpacked L) (packed_told d p k.packing).1 ∙ text_unpacked L t f a unique) in
            let shorter = text_plain L t f a in
            record {
              text = written (plain d);
              tree = w.tree;
              compact = w.compact;
              same = rw w.says (plain_same d (text_labels L t f a));
              shorter = shorter;
              count =
                  sym (text_count L (written (plain d)) w.tree w.compact.accepted) ∙ ap count_of w.says ∙ plain_count d ∙ text_count L t f a;
              left = unpacking_so p room' (written (plain d)) w.tree w.compact (omega arith);
            }

    pub packs_back_so : (p : List ℕ) → Bytes p → (room : ℕ) → Accepted (unpacked_by L p room) → (words room' : ℕ)
        → row_words * (unpacked_by L p room).answer.second ≤ words → length p ≤ room'
        → Accepted (packed_by L (written_in (unpacked_by L p room)) words room') × (written_in (packed_by L (written_in (unpacked_by L p room)) words room') ≡ p)
    packs_back_so p small room e words room' w l =
        let (t, f, c, m) = (unpacks_so p room small).0 e in
        go t f c (unpacked_by L p room) (unpacking_so p room t f c m) w
      where
        go : (t : List ℕ) (f : Forest) → CompactText L p t f → (k : Left) → k ≡ leaves (numbers 0 (size f) (length t)) [] (filled room t)
            → row_words * k.answer.second ≤ words
            → Accepted (packed_by L (written_in k) words room') × (written_in (packed_by L (written_in k) words room') ≡ p)
        go t f c k q n =
            let rows : row_words * size f ≤ words = rw q at n in
            let able : Packable L words t f p = record { readable = record { accepts = c.accepted; enough = rows }; packing = c.packing } in
            rw (q, taken room t, packing_so L t words room' f p able l) (refl, taken room' p)
