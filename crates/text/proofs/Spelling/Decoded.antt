-- What a good string decodes to:
--     one-spelling         bytes spell at most one list of code points
--     spelled-through      a walk that hands on bytes other than quote and backslash and gives the UTF-8 of an escape, gives that of what is spelled
--     decode-spelled       bytes that spell decode to the UTF-8 of their code points: all of it, so decoding never stops early
--     name-decoded         so does the inside of every string that ends
-- Assumes nothing.
use Rattle.std.specs.Prelude.{Some, Ok}
use mathlib.Core.Path.{◌≡◌, refl, sym, ap, ap₂, ◌∙◌}
use mathlib.Core.List.{List, [], ◌∷◌, ◌++◌, append_assoc, append-nil}
use Prim.Native.Nat.{ℕ, ◌+◌, ◌-◌, ◌≤◌, ◌<◌}
use native.Mathlib.Nat.{add-zero}
use native.Mathlib.Omega.{arith}
use lib.ListN.{length, drop, length-append}
use borrow.Author.Tests.{ne_eqb}
use Rattle.laws.proofs.Splits.{first_there, beyond}
use Rattle.text.specs.Text.{byte_at}
use Rattle.text.specs.Chars.{escape_at}
use Rattle.text.specs.Strings.{string_end, stop, piece, piece_by, decode_from, decode, name_of}
use Rattle.text.specs.Utf8.{utf8}
use Rattle.text.specs.Spelling.{Bare, Spell, raw, short, unit, pair, Spells, none, more, utf8s}
use Rattle.text.proofs.Walks.{decode_at, past_piece}
use Rattle.text.proofs.Spelling.Codes.{by_utf8}
use Rattle.text.proofs.Spelling.Taken.{backslash_step, spelled_step}
use Rattle.text.proofs.Spelling.Characters.{some_bytes, one_char, one_rest}
use Rattle.text.proofs.Spelling.Ends.{ended_spells}

-- ---- the list of code points is unique ----

same_spelling : {v w cs ds : List ℕ} → Spells v cs → Spells w ds → v ≡ w → cs ≡ ds
same_spelling none none e = refl
same_spelling none (more {w} {u} s r) e = let n = some_bytes s in absurd (omega (arith, ap length e, length-append w u))
same_spelling (more {w} {u} s r) none e = let n = some_bytes s in absurd (omega (arith, ap length e, length-append w u))
same_spelling (more {u = x} s r) (more {u = y} p q) e = ap₂ (λ (c : ℕ) (cs : List ℕ). c ∷ cs) (one_char s p x y e) (same_spelling r q (one_rest s p x y e))

pub one_spelling : {w cs ds : List ℕ} → Spells w cs → Spells w ds → cs ≡ ds
one_spelling s p = same_spelling s p refl

-- ---- walks over bytes that spell ----

-- bytes that such a walk hands on
abbrev Handed : List ℕ → Type 0
Handed [] = Prim.Unit {0}
Handed (b ∷ w) = (b ≡ 34 → ⊥) × ((b ≡ 92 → ⊥) × ((b < 256) × Handed w))

utf8_handed : (c : ℕ) → Bare c → Handed (utf8 c)
utf8_handed c u = let n = u.no_backslash in let m = u.no_quote in by_utf8 Handed c (λ h. omega arith) (λ h k. omega arith) (λ h k. omega arith) (λ h. omega arith)

-- any walk that hands on bytes other than quote and backslash, and that gives the UTF-8 of an escape
module _ (t : List ℕ) (walk : ℕ → List ℕ)
    (byte : (i b : ℕ) → byte_at t i ≡ b → (b ≡ 34 → ⊥) → (b ≡ 92 → ⊥) → (b ≡ 256 → ⊥) → walk i ≡ b ∷ walk (i + 1))
    (escape : (i c n : ℕ) → byte_at t i ≡ 92 → escape_at t i ≡ Ok (Some (c, n)) → walk i ≡ utf8 c ++ walk (i + n)) where
  handed_on : (i : ℕ) (w r : List ℕ) → Handed w → drop i t ≡ w ++ r → walk i ≡ w ++ walk (i + length w)
  handed_on i [] r h e = ap walk (sym (add-zero i))
  handed_on i (b ∷ w) r h e =
      let l = h.1.1.0 in
      let place : i + 1 + length w ≡ i + length (b ∷ w) = omega arith in
      byte i b (first_there t i b (w ++ r) e 256) h.0 h.1.0 (λ z. omega arith)
      ∙ ap (λ (bs : List ℕ). b ∷ bs) (handed_on (i + 1) w r h.1.1.1 (beyond t i (b ∷ []) (w ++ r) e) ∙ ap (λ (j : ℕ). w ++ walk j) place)

  escape_through : (i : ℕ) {w : List ℕ} {c : ℕ} → Spell (92 ∷ w) c → (r : List ℕ) → drop i t ≡ 92 ∷ w ++ r → walk i ≡ utf8 c ++ walk (i + length (92 ∷ w))
  escape_through i {w} {c} s r e = escape i c (length (92 ∷ w)) (first_there t i 92 (w ++ r) e 256) (sym (backslash_step t i (w ++ r) e) ∙ spelled_step t i s r e)

  char_through : (i : ℕ) {w : List ℕ} {c : ℕ} → Spell w c → (r : List ℕ) → drop i t ≡ w ++ r → walk i ≡ utf8 c ++ walk (i + length w)
  char_through i (raw {c} g u) r e = handed_on i (utf8 c) r (utf8_handed c u) e
  char_through i (short s) r e = escape_through i (short s) r e
  char_through i (unit g d) r e = escape_through i (unit g d) r e
  char_through i (pair d h f l g) r e = escape_through i (pair d h f l g) r e

  pub spelled_through : (i : ℕ) {w cs : List ℕ} → Spells w cs → (r : List ℕ) → drop i t ≡ w ++ r → walk i ≡ utf8s cs ++ walk (i + length w)
  unfolding utf8s
  spelled_through i none r e = ap walk (sym (add-zero i))
  spelled_through i (more {w} {u} {c} {cs} s rest) r e =
      let e1 : drop i t ≡ w ++ (u ++ r) = e ∙ append_assoc w u r in
      let place : i + length w + length u ≡ i + length (w ++ u) = omega (arith, length-append w u) in
      char_through i s (u ++ r) e1 ∙ ap (λ (bs : List ℕ). utf8 c ++ bs) (spelled_through (i + length w) rest r (beyond t i w (u ++ r) e1) ∙ ap (λ (j : ℕ). utf8s cs ++ walk j) place)
      ∙ sym (append_assoc (utf8 c) (utf8s cs) (walk (i + length (w ++ u))))

-- ---- decoding is such a walk ----

decode_byte : (t : List ℕ) (i b : ℕ) → byte_at t i ≡ b → (b ≡ 92 → ⊥) → (b ≡ 256 → ⊥) → decode_from t i ≡ b ∷ decode_from t (i + 1)
unfolding piece_by
decode_byte t i b e s z = decode_at t i (piece (b ∷ []) 1) (simp (e, ne_eqb b 256 z, ne_eqb b 92 s))

decode_escape : (t : List ℕ) (i c n : ℕ) → byte_at t i ≡ 92 → escape_at t i ≡ Ok (Some (c, n)) → decode_from t i ≡ utf8 c ++ decode_from t (i + n)
unfolding piece_by
decode_escape t i c n e q = decode_at t i (piece (utf8 c) n) (rw (e, q))

decoded_through : (t : List ℕ) (i : ℕ) {w cs : List ℕ} → Spells w cs → (r : List ℕ) → drop i t ≡ w ++ r → decode_from t i ≡ utf8s cs ++ decode_from t (i + length w)
decoded_through t = spelled_through t (decode_from t) (λ i b e q s z. decode_byte t i b e s z) (decode_escape t)

pub decode_spelled : {w cs : List ℕ} → Spells w cs → decode w ≡ utf8s cs
decode_spelled {w} {cs} s =
    let l : length w ≤ 0 + length w = omega arith in
    decoded_through w 0 s [] (sym (append-nil w)) ∙ ap (λ (bs : List ℕ). utf8s cs ++ bs) (decode_at w (0 + length w) stop (past_piece w (0 + length w) l)) ∙ append-nil (utf8s cs)

pub name_decoded : (t : List ℕ) (i e : ℕ) (q : string_end t i ≡ Ok e) → name_of t i (e - 1) ≡ utf8s (ended_spells t i e q).codes
name_decoded t i e q = decode_spelled (ended_spells t i e q).spelled
