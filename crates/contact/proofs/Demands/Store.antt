-- Packing and unpacking beside what reading answers: `store_unread`, `store_own`, `store_rows`, `store_read`. Assumes nothing.
use mathlib.Core.Path.{◌≡◌, refl}
use mathlib.Core.Bool.{true}
use mathlib.Core.List.{List, []}
use Prim.Native.Nat.{ℕ, ◌*◌, ◌≤◌}
use native.Mathlib.Omega.{arith}
use lib.ListN.{length}
use Rattle.laws.specs.Lists.{filled}
use Rattle.laws.proofs.Branches.{if_less}
use Rattle.text.specs.Limits.{Limits, row_words}
use Rattle.text.specs.Text.{Bytes}
use Rattle.text.specs.Tree.{Forest, size}
use Rattle.text.specs.Reader.{Read, good, bad}
use Rattle.text.specs.Sheet.{numbers, Left, leaves, Within}
use Rattle.text.specs.Whole.{whole_of, sheet_of}
use Rattle.text.specs.Meaning.{Readable}
use Rattle.text.specs.Doc.{doc_of}
use Rattle.text.proofs.Lines.{line_of, text_line}
use Rattle.packing.specs.Packed.{packed, widest, widest_allowed}
use Rattle.packing.specs.Services.{Stored, pack_read, pack_of, answer_of_stored, refused_packing, paper_of_packing, packed_by, unpacked_by}
use Rattle.packing.specs.Promise.{Accepted, written_in}
use Rattle.packing.proofs.Packs.{taken}
use Rattle.packing.proofs.Promise.{stores_cards}
use Rattle.contact.specs.Services.{read, served}
use Rattle.contact.specs.Demands.{Passes}
use Rattle.contact.proofs.Demands.Reading.{read_rows}

module _ (L : Limits) (t : List ℕ) (words room : ℕ) where
  pub store_unread : ¬ Passes (served L) (read t words) → (packed_by L t words room).answer ≡ (served L (read t words)).answer
  unfolding served sheet_of packed_by pack_of pack_read answer_of_stored paper_of_packing refused_packing
  store_unread n = go (whole_of L words t) refl
    where
      go : (R : Read) → whole_of L words t ≡ R → (packed_by L t words room).answer ≡ (served L (read t words)).answer
      go (bad r) e = rw e
      go (good f to) e = absurd (n (rw e))

  pub store_own : Passes (served L) (read t words) → Within 1 7 (packed_by L t words room).answer.number → ⊥
  unfolding served sheet_of packed_by pack_of pack_read answer_of_stored paper_of_packing refused_packing
  store_own n = go (whole_of L words t) n
    where
      P : Stored → Type 0
      P k = Within 1 7 (paper_of_packing (answer_of_stored k)).number → ⊥

      go : (R : Read) → (sheet_of R).number ≡ 0 → P (pack_read room t R)
      go (bad r) e = absurd (omega (arith, line_of (text_line r)))
      go (good f to) e =
          if_less P widest_allowed (widest (doc_of t f)) (λ h w. omega arith)
          (λ h. if_less P room (length (packed (doc_of t f))) (λ l w. omega arith) (λ l w. omega arith))

module _ (L : Limits) (unique : L.unique ≡ true) where
  pub store_rows : (t : List ℕ) (words room : ℕ) → Accepted (packed_by L t words room)
      → ((served L (read t words)).answer ≡ numbers 0 (packed_by L t words room).answer.second 0) × ((packed_by L t words room).table ≡ (served L (read t words)).table)
  store_rows t words room e =
      let s = stores_cards L unique in
      let (f, p, k, l) = (s.packs t words room).0 e in
      rw (s.packing t words room f p k l, read_rows L words t f k.readable) (refl, refl)

  pub store_read : (p : List ℕ) → Bytes p → (room : ℕ) → Accepted (unpacked_by L p room) → (words : ℕ) → row_words * (unpacked_by L p room).answer.second ≤ words
      → (served L (read (written_in (unpacked_by L p room)) words)).answer ≡ numbers 0 (unpacked_by L p room).answer.second 0
  store_read p small room e words w =
      let s = stores_cards L unique in
      let (t, f, c, l) = (s.unpacks p small room).0 e in
      go t f (λ n. record { accepts = c.accepted; enough = n }) (unpacked_by L p room) (s.unpacking p room t f c l) w
    where
      go : (t : List ℕ) (f : Forest) → (row_words * size f ≤ words → Readable L words t f) → (k : Left) → k ≡ leaves (numbers 0 (size f) (length t)) [] (filled room t)
          → row_words * k.answer.second ≤ words → (served L (read (written_in k) words)).answer ≡ numbers 0 k.answer.second 0
      go t f r k q n =
          let rows : row_words * size f ≤ words = rw q at n in
          rw (q, taken room t, read_rows L words t f (r rows))
