-- Laws for callers:
--     letters          the bytes of a quoted text are the codes of its characters
--     end-inside       a string that ends does so inside the text, after the place where the reading began
--     value-parts      a value is, by its kind, the array, the object or the scalar that stands at its place
--     two, three, four          the UTF-8 of a raw character's code point is its own bytes
-- Assumes nothing.
use Rattle.std.specs.Prelude.{Option, Some, None, Result, Ok, Err}
use Rattle.text.specs.declared.Fault.{Fault}
use Rattle.text.specs.declared.Fault.TheVariants.{Malformed, Forbidden}
use mathlib.Core.Path.{◌≡◌, refl, sym, ap, ap₂, ◌∙◌}
use mathlib.Core.List.{List, [], ◌∷◌}
use Prim.Native.String.{String}
use Prim.Native.String as S
use Prim.Native.Nat.{ℕ, zero, suc, ◌+◌, ◌-◌, ◌*◌, ◌/◌, ◌%◌, ◌≤◌, ◌<◌}
use native.Mathlib.Omega.{arith}
use lib.ListN.{length}
use borrow.Author.Tests.{lt-ltb, le-ltb}
use Rattle.text.specs.Limits.{Limits}
use Rattle.text.specs.Text.{bytes, Codes}
use Rattle.text.specs.Text as T
use Rattle.text.specs.Chars.{seq2, seq3, seq4, step_at}
use Rattle.text.specs.Strings.{string_end}
use Rattle.text.specs.Utf8.{conts, utf8}
use Rattle.text.specs.Reader.{value_with, value_at, elements_at, members_at, array_at, object_at}
use Rattle.text.proofs.Sequences.{by_seq2, by_seq3, by_seq4}
use Rattle.text.proofs.Walks.{end_at_lem, close_inside, char_inside}

-- ---- quoted texts ----

pub letters : (s : String) → Codes s (bytes s)
letters S.[] = T.none
letters (S.◌∷◌ c s) = T.more (letters s)

-- ---- where a string ends ----

pub record EndInside (t : List ℕ) (i e : ℕ) : Type 0 where
  pub after : i < e
  pub within : e ≤ length t

-- by the number of bytes left, f
ends : (f : ℕ) (t : List ℕ) (i e : ℕ) → length t - i < f → string_end t i ≡ Ok e → EndInside t i e
ends zero t i e h q = absurd (omega arith)
ends (suc f) t i e h q = go (step_at t i) refl (λ j l g. ends f t j e l g)
  where
    go : (s : Result (Option (ℕ × ℕ)) (Fault ℕ)) → step_at t i ≡ s → ((j : ℕ) → length t - j < f → string_end t j ≡ Ok e → EndInside t j e) → EndInside t i e
    go (Ok None) p more =
        let r : Ok (i + 1) ≡ Ok e = sym (end_at_lem t i (Ok None) p) ∙ q in
        let k : i + 1 ≡ e = cc in
        let l = close_inside t i p in
        omega arith
    go (Ok (Some (code, n))) p more =
        let l = char_inside t i p in
        let r = more (i + n) (omega arith) (sym (end_at_lem t i (Ok (Some (code, n))) p) ∙ q) in
        omega arith
    go (Err (Malformed x)) p more =
        let r : Err (Malformed x) ≡ Ok e = sym (end_at_lem t i (Err (Malformed x)) p) ∙ q in
        let z : ◌≡◌ {A = ℕ} 0 1 = cc in
        absurd (omega arith)
    go (Err (Forbidden x)) p more =
        let r : Err (Forbidden x) ≡ Ok e = sym (end_at_lem t i (Err (Forbidden x)) p) ∙ q in
        let z : ◌≡◌ {A = ℕ} 0 1 = cc in
        absurd (omega arith)

pub end_inside : (t : List ℕ) (i e : ℕ) → string_end t i ≡ Ok e → EndInside t i e
end_inside t i e q = ends (suc (length t - i)) t i e (omega arith) q

-- ---- the UTF-8 of a raw character ----

pub two : (b x : ℕ) → 192 ≤ b → b < 224 → x < 64 → 128 ≤ b % 32 * 64 + x → utf8 (seq2 b x) ≡ b ∷ (128 + x) ∷ []
unfolding utf8 conts
two b x lo hi hx ov =
    let code : ℕ = b % 32 * 64 + x in
    let s : seq2 b x ≡ code = by_seq2 (λ c. c ≡ code) b x (λ h. absurd (omega arith)) (λ h. absurd (omega arith)) (λ h k. refl) in
    let u : utf8 code ≡ (192 + code / 64 % 32) ∷ (128 + code % 64) ∷ [] = simp (le-ltb code 128 ov, lt-ltb code 2048 (omega arith)) in
    let p : 192 + code / 64 % 32 ≡ b = omega arith in
    let q : 128 + code % 64 ≡ 128 + x = omega arith in
    ap utf8 s ∙ u ∙ ap₂ (λ (m n : ℕ). m ∷ n ∷ []) p q

pub three : (b x y : ℕ) → 224 ≤ b → b < 240 → x < 64 → y < 64 → 2048 ≤ b % 16 * 4096 + x * 64 + y → utf8 (seq3 b x y) ≡ b ∷ (128 + x) ∷ (128 + y) ∷ []
unfolding utf8 conts
three b x y lo hi hx hy ov =
    let code : ℕ = b % 16 * 4096 + x * 64 + y in
    let s : seq3 b x y ≡ code = by_seq3 (λ c. c ≡ code) b x y (λ h. absurd (omega arith)) (λ h. absurd (omega arith)) (λ h. absurd (omega arith)) (λ h k l. refl) in
    let u : utf8 code ≡ (224 + code / 4096 % 16) ∷ (128 + code / 64 % 64) ∷ (128 + code % 64) ∷ [] =
    simp (le-ltb code 128 (omega arith), le-ltb code 2048 ov, lt-ltb code 65536 (omega arith)) in
    let p : 224 + code / 4096 % 16 ≡ b = omega arith in
    let q : 128 + code / 64 % 64 ≡ 128 + x = omega arith in
    let r : 128 + code % 64 ≡ 128 + y = omega arith in
    ap utf8 s ∙ u ∙ (cc)

pub four : (b x y z : ℕ) → 240 ≤ b → b < 248 → x < 64 → y < 64 → z < 64 → 65536 ≤ b % 8 * 262144 + x * 4096 + y * 64 + z
    → utf8 (seq4 b x y z) ≡ b ∷ (128 + x) ∷ (128 + y) ∷ (128 + z) ∷ []
unfolding utf8 conts
four b x y z lo hi hx hy hz ov =
    let code : ℕ = b % 8 * 262144 + x * 4096 + y * 64 + z in
    let s : seq4 b x y z ≡ code = by_seq4 (λ c. c ≡ code) b x y z (λ h. absurd (omega arith)) (λ h. absurd (omega arith)) (λ h. absurd (omega arith)) (λ h. absurd (omega arith)) (λ h k l m. refl) in
    let u : utf8 code ≡ (240 + code / 262144 % 8) ∷ (128 + code / 4096 % 64) ∷ (128 + code / 64 % 64) ∷ (128 + code % 64) ∷ [] =
    simp (le-ltb code 128 (omega arith), le-ltb code 2048 (omega arith), le-ltb code 65536 ov) in
    let p : 240 + code / 262144 % 8 ≡ b = omega arith in
    let q : 128 + code / 4096 % 64 ≡ 128 + x = omega arith in
    let r : 128 + code / 64 % 64 ≡ 128 + y = omega arith in
    let v : 128 + code % 64 ≡ 128 + z = omega arith in
    ap utf8 s ∙ u ∙ (cc)

-- ---- a value and its parts ----

pub value_parts : (L : Limits) (t : List ℕ) (depth ns ne at n : ℕ) → value_at L t depth ns ne at n ≡ value_with L t (array_at L t depth) (object_at L t depth) ns ne at n
unfolding value_at array_at object_at elements_at members_at
value_parts L t zero ns ne at n = refl
value_parts L t (suc depth) ns ne at n = refl
