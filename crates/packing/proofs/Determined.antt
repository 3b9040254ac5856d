-- The promise leaves nothing open (specs/Promise.antt): `one_vault`. Any vault of which it holds leaves what `vaulted` does. Assumes nothing.
use mathlib.Core.Path.{◌≡◌, refl, sym, ap, ◌∙◌}
use mathlib.Core.List.{List, []}
use mathlib.Core.Bool.{true}
use Prim.Native.Nat.{ℕ, ◌<◌}
use native.Mathlib.Nat.{sub-zero}
use native.Mathlib.Omega.{arith}
use lib.ListN.{length, replicate}
use Rattle.laws.specs.Lists.{filled}
use Rattle.text.specs.Limits.{Limits}
use Rattle.text.specs.Text.{Bytes}
use Rattle.text.specs.declared.Paper.{Paper}
use Rattle.text.specs.Sheet.{Left, leaves, EndsBy}
use Rattle.text.specs.Sheet as sheet
use Rattle.text.proofs.Lines.{same_number, line_of, text_line}
use Rattle.packing.specs.Services.{Stored, Restored, Vault, answer_of_stored, refused_packing, paper_of_packing, table_of_stored, output_of_stored, packed_by, answer_of_restored, paper_of_unpacking, output_of_restored, unpacked_by}
use Rattle.packing.specs.Promise.{UnpackEnds, acceptance, refusal, StoresCards, OneVault}
use Rattle.packing.proofs.Packs as packs
use Rattle.packing.proofs.Unpacks as unpacks

-- ---- a refusal leaves zero alone

zero_left : {Line : ℕ → Type 0} {words room : ℕ} {l : Left} (a : Paper) → EndsBy Line words room l → l.answer ≡ a → 0 < a.number → l ≡ leaves a (filled words []) (filled room [])
zero_left a (sheet.acceptance rows bytes count spare rest x y z) e n = absurd (omega (arith, same_number e))
zero_left {words = words} {room = room} a (sheet.refusal h) e n = rw (sub-zero words, sub-zero room) (ap (λ (p : Paper). leaves p (replicate words 0) (replicate room 0)) e)

zero_text : {room : ℕ} {l : Left} (a : Paper) → UnpackEnds room l → l.answer ≡ a → 0 < a.number → l ≡ leaves a [] (filled room [])
zero_text a (acceptance values text rest x) e n = absurd (omega (arith, same_number e))
zero_text {room = room} a (refusal h) e n = rw (sub-zero room) (ap (λ (p : Paper). leaves p [] (replicate room 0)) e)

module _ (L : Limits) (unique : L.unique ≡ true) (v : Vault) (s : StoresCards L v) where
  packs_alike : (t : List ℕ) (words room : ℕ) → v.pack t words room ≡ packed_by L t words room
  unfolding packed_by answer_of_stored paper_of_packing refused_packing table_of_stored output_of_stored
  packs_alike t words room = go (packs.view L t words room)
    where
      go : {k : Stored} → packs.View L t words room k → v.pack t words room ≡ leaves (paper_of_packing (answer_of_stored k)) (table_of_stored words k) (output_of_stored room k)
      go (packs.unread {r = r} u) = zero_left _ (s.pack_ends t words room) ((s.unread t words room r).1 u) (omega (arith, line_of (text_line r)))
      go (packs.wide {f = f} r h) = zero_left _ (s.pack_ends t words room) ((s.too_wide t words room 0).1 (refl, (f, r, h))) (omega arith)
      go (packs.short {f = f} {p = p} k l) = zero_left _ (s.pack_ends t words room) ((s.too_short t words room (length p)).1 (f, p, k, refl, l)) (omega arith)
      go (packs.fine {f = f} {p = p} k l) = s.packing t words room f p k l

  unpacks_alike : (p : List ℕ) → Bytes p → (room : ℕ) → v.unpack p room ≡ unpacked_by L p room
  unfolding unpacked_by answer_of_restored paper_of_unpacking output_of_restored
  unpacks_alike p small room = go (unpacks.view L unique p room small)
    where
      go : {k : Restored} → unpacks.View L unique p room k → v.unpack p room ≡ leaves (paper_of_unpacking (answer_of_restored k)) [] (output_of_restored room k)
      go (unpacks.nothing h) = zero_text _ (s.unpack_ends p room) ((s.not_packed_says p small room 0).1 (refl, h)) (omega arith)
      go (unpacks.short {t = t} {f = f} c l) = zero_text _ (s.unpack_ends p room) ((s.text_short p small room (length t)).1 (t, f, c, refl, l)) (omega arith)
      go (unpacks.fine {t = t} {f = f} c l) = s.unpacking p room t f c l

pub one_vault : (L : Limits) → L.unique ≡ true → OneVault L
one_vault L unique v w s r = (
  λ t words room. packs_alike L unique v s t words room ∙ sym (packs_alike L unique w r t words room),
  λ p small room. unpacks_alike L unique v s p small room ∙ sym (unpacks_alike L unique w r p small room),
)
