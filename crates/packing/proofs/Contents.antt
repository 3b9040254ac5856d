-- The tests on contents tell what they should:
--     text-told, text-tested       UTF-8 of characters that a string may hold
--     number-told, number-tested   one number of the grammar
-- Assumes nothing.
use Rattle.std.specs.Prelude.{Option, Some, None, Result, Ok, Err}
use Rattle.text.specs.declared.Fault.{Fault}
use Rattle.text.specs.declared.Fault.TheVariants.{Malformed, Forbidden}
use mathlib.Core.Path.{◌≡◌, refl, sym, ap, ap₂, subst, ◌∙◌}
use mathlib.Core.List.{List, [], ◌∷◌, ◌++◌}
use mathlib.Core.Bool.{Bool, true, false}
use mathlib.Core.Logic.{⊎_elim}
use Prim.Native.Nat.{ℕ, zero, suc, ◌+◌, ◌-◌, ◌≤◌, ◌<◌}
use native.Mathlib.Nat.{add-zero}
use native.Mathlib.Omega.{arith}
use lib.ListN.{length, get_or, drop, length-drop, drop_of_length-le, get_or-eq_default}
use borrow.Author.Tests.{lt-ltb, le-ltb, eq-eqb, eqb-true}
use Rattle.laws.proofs.Bounds.{AllBelow}
use Rattle.laws.proofs.Scans.{scan_step}
use Rattle.laws.proofs.Places.{inside, drop_byte}
use Rattle.laws.proofs.Bounds.{below_at_lem}
use Rattle.laws.proofs.Splits.{there, first_there, beyond}
use Rattle.text.specs.Text.{byte_at}
use Rattle.text.specs.Chars.{raw_at, step_at}
use Rattle.text.specs.Tokens.{number_at}
use Rattle.text.specs.Utf8.{utf8}
use Rattle.text.specs.Spelling.{Spell, raw, short, unit, pair, utf8s}
use Rattle.text.specs.Grammar.{Number, numeral}
use Rattle.text.proofs.Walks.{Long, long}
use Rattle.text.proofs.Spelling.Codes.{ascii_good, by_utf8, one_byte}
use Rattle.text.proofs.Spelling.Taken.{high_step, spelled_step}
use Rattle.text.proofs.Spelling.Characters.{char_at, some_bytes}
use Rattle.text.proofs.Spelling.Encoding.{AllGood, spell_good}
use Rattle.text.proofs.Grammar.Stands.{by_order}
use Rattle.text.proofs.Grammar.Prefixes.{stands_whole, like_whole}
use Rattle.text.proofs.Grammar.Exact.{TokenSays, TokenFollows}
use Rattle.text.proofs.Grammar.Number.{number_exact}
use Rattle.text.proofs.Grammar.Meets.{three_text}
use Rattle.packing.specs.Fields.{on_raw, text_body, text_from, is_text, ends_at, is_number}

-- ---- the walk's own equation

raw_later : (k l : ℕ → Bool) (i : ℕ) (s : Result (Option (ℕ × ℕ)) (Fault ℕ)) → Long s → ((j : ℕ) → i < j → k j ≡ l j) → on_raw k i s ≡ on_raw l i s
raw_later k l i (Ok None) h e = refl
raw_later k l i (Ok (Some (code, n))) h e = e (i + n) (omega arith)
raw_later k l i (Err (Malformed p)) h e = refl
raw_later k l i (Err (Forbidden p)) h e = refl

body_later : (w : List ℕ) (k l : ℕ → Bool) (i : ℕ) → ((j : ℕ) → i < j → k j ≡ l j) → text_body w k i ≡ text_body w l i
body_later w k l i e =
    by_order (byte_at w i) 128
    (λ h. rw (lt-ltb (byte_at w i) 128 h) (e (i + 1) (omega arith)))
    (λ h. by_order (byte_at w i) 256
    (λ g. rw (le-ltb (byte_at w i) 128 h, lt-ltb (byte_at w i) 256 g) (raw_later k l i (raw_at w i (byte_at w i)) (subst Long (high_step w i (byte_at w i) refl h g) (long w i)) e))
    (λ g. rw (le-ltb (byte_at w i) 128 h, le-ltb (byte_at w i) 256 g)))

text_step : (w : List ℕ) (i : ℕ) → text_from w i ≡ text_body w (text_from w) i
unfolding text_from
text_step w i = scan_step (text_body w) false (length w) (body_later w) (λ k l j h. rw (get_or-eq_default w 256 h)) i

module _ (w : List ℕ) (i : ℕ) where
  pub text_low : byte_at w i < 128 → text_from w i ≡ text_from w (i + 1)
  text_low h = text_step w i ∙ rw (lt-ltb (byte_at w i) 128 h)

  pub text_high : 128 ≤ byte_at w i → byte_at w i < 256 → text_from w i ≡ on_raw (text_from w) i (raw_at w i (byte_at w i))
  text_high h g = text_step w i ∙ rw (le-ltb (byte_at w i) 128 h, lt-ltb (byte_at w i) 256 g)

  pub text_end : 256 ≤ byte_at w i → text_from w i ≡ true
  text_end h = text_step w i ∙ rw (le-ltb (byte_at w i) 128 (omega arith), le-ltb (byte_at w i) 256 h)

-- ---- what passes is text

-- the bytes from i on are the UTF-8 of good code points
record TextAt (w : List ℕ) (i : ℕ) : Type 0 where
  codes : List ℕ
  good : AllGood codes
  is : drop i w ≡ utf8s codes

-- a spelling that begins with a byte of 128 or more is the character itself
raw_spell : {v : List ℕ} {c : ℕ} → Spell v c → 128 ≤ byte_at v 0 → v ≡ utf8 c
raw_spell (raw g u) h = refl
raw_spell (short s) h = absurd (omega arith)
raw_spell (unit g d) h = absurd (omega arith)
raw_spell (pair d k f l g) h = absurd (omega arith)

module _ (w : List ℕ) (small : AllBelow 256 w) (i : ℕ) (later : (j : ℕ) → i < j → i < length w → text_from w j ≡ true → TextAt w j) where
  over : 256 ≤ byte_at w i → length w ≤ i
  over g = by_order i (length w) (λ l. absurd (omega (arith, below_at_lem 256 w small i 256 l))) (λ l. l)

  low_here : byte_at w i < 128 → i < length w → text_from w (i + 1) ≡ true → TextAt w i
  unfolding utf8s
  low_here h l e =
      let r = later (i + 1) (omega arith) l e in
      record {
        codes = byte_at w i ∷ r.codes;
        good = (ascii_good (byte_at w i) h, r.good);
        is = drop_byte w i l ∙ rw (one_byte (byte_at w i) h) (ap (λ (v : List ℕ). byte_at w i ∷ v) r.is);
      }

  high_here : 128 ≤ byte_at w i → byte_at w i < 256 → i < length w → (s : Result (Option (ℕ × ℕ)) (Fault ℕ)) → raw_at w i (byte_at w i) ≡ s → on_raw (text_from w) i s ≡ true → TextAt w i
  unfolding utf8s
  high_here h g l (Ok None) p q = let z : ◌≡◌ {A = Bool} false true = q in let n : ◌≡◌ {A = ℕ} 0 1 = cc in absurd (omega arith)
  high_here h g l (Err (Malformed x)) p q = let z : ◌≡◌ {A = Bool} false true = q in let n : ◌≡◌ {A = ℕ} 0 1 = cc in absurd (omega arith)
  high_here h g l (Err (Forbidden x)) p q = let z : ◌≡◌ {A = Bool} false true = q in let n : ◌≡◌ {A = ℕ} 0 1 = cc in absurd (omega arith)
  high_here h g l (Ok (Some (c, n))) p q =
      let a = char_at w i (high_step w i (byte_at w i) refl h g ∙ p) in
      let m = some_bytes a.spelled in
      let s = a.size in
      let first : get_or w (i + 0) 256 ≡ get_or a.bytes 0 256 = there w i a.bytes a.rest a.split 0 256 m in
      let here : byte_at w i ≡ byte_at a.bytes 0 = rw add-zero at first in
      let r = later (i + n) (omega arith) l q in
      let v : a.bytes ≡ utf8 c = raw_spell a.spelled (omega arith) in
      let rest : a.rest ≡ utf8s r.codes = sym (beyond w i a.bytes a.rest a.split) ∙ ap (λ (j : ℕ). drop (i + j) w) s ∙ r.is in
      record { codes = c ∷ r.codes; good = (spell_good a.spelled, r.good); is = a.split ∙ ap₂ (λ (x y : List ℕ). x ++ y) v rest }

  text_here : text_from w i ≡ true → TextAt w i
  unfolding utf8s
  text_here e =
      by_order (byte_at w i) 128
      (λ h. low_here h (inside w i (omega arith)) (sym (text_low w i h) ∙ e))
      (λ h. by_order (byte_at w i) 256
      (λ g. high_here h g (inside w i g) (raw_at w i (byte_at w i)) refl (sym (text_high w i h g) ∙ e))
      (λ g. record { codes = []; good = tt; is = drop_of_length-le w (over g) }))

text_at : (turns : ℕ) (w : List ℕ) → AllBelow 256 w → (i : ℕ) → length w - i < turns → text_from w i ≡ true → TextAt w i
text_at zero w small i f e = absurd (omega arith)
text_at (suc turns) w small i f e = text_here w small i (λ j l n. text_at turns w small j (omega arith)) e

-- a run of bytes that is UTF-8 of good code points
pub record IsText (w : List ℕ) : Type 0 where
  pub codes : List ℕ
  pub good : AllGood codes
  pub is : w ≡ utf8s codes

pub text_told : (w : List ℕ) → AllBelow 256 w → is_text w ≡ true → IsText w
text_told w small e = let r = text_at (suc (length w)) w small 0 (omega arith) e in record { codes = r.codes; good = r.good; is = r.is }

-- ---- text passes

first_high : (c : ℕ) → 128 ≤ c → (128 ≤ byte_at (utf8 c) 0) × (byte_at (utf8 c) 0 < 256) × (0 < length (utf8 c))
first_high c h =
    by_utf8 (λ v. (128 ≤ byte_at v 0) × (byte_at v 0 < 256) × (0 < length v)) c (λ k. absurd (omega arith)) (λ k l. omega arith) (λ k l. omega arith) (λ k. omega arith)

text_through : (cs : List ℕ) → AllGood cs → (w : List ℕ) (i : ℕ) → drop i w ≡ utf8s cs → text_from w i ≡ true
unfolding utf8s
text_through [] g w i e =
    let l : length (drop i w) ≡ 0 = ap length e in
    let b : byte_at w i ≡ 256 = get_or-eq_default w 256 (omega (arith, length-drop i w)) in
    text_end w i (omega arith)
text_through (c ∷ cs) g w i e =
    by_order c 128
    (λ h. let p : drop i w ≡ c ∷ utf8s cs = rw (one_byte c h) at e in
    let b : byte_at w i ≡ c = first_there w i c (utf8s cs) p 256 in
    text_low w i (omega arith) ∙ text_through cs g.1 w (i + 1) (beyond w i (c ∷ []) (utf8s cs) p))
    (λ h. let f = first_high c h in
    let first : get_or w (i + 0) 256 ≡ byte_at (utf8 c) 0 = there w i (utf8 c) (utf8s cs) e 0 256 f.2 in
    let b : byte_at w i ≡ byte_at (utf8 c) 0 = rw add-zero at first in
    let s : step_at w i ≡ Ok (Some (c, length (utf8 c))) = spelled_step w i (raw g.0 (omega arith)) (utf8s cs) e in
    let r : raw_at w i (byte_at w i) ≡ Ok (Some (c, length (utf8 c))) = sym (high_step w i (byte_at w i) refl (omega arith) (omega arith)) ∙ s in
    text_high w i (omega arith) (omega arith) ∙ rw r (text_through cs g.1 w (i + length (utf8 c)) (beyond w i (utf8 c) (utf8s cs) e)))

pub text_tested : (w : List ℕ) → IsText w → is_text w ≡ true
text_tested w t = text_through t.codes t.good w 0 t.is

-- ---- numbers

pub number_told : (w : List ℕ) → is_number w ≡ true → Number w
unfolding is_number
number_told w e = go (number_at w 0) ((number_exact w).told 0 (omega arith)) e
  where
    go : (k : Result ℕ (Fault ℕ)) → TokenSays w Number 0 k → ends_at (length w) k ≡ true → Number w
    go (Ok to) s q =
        let n : to ≡ length w = eqb-true to (length w) q in
        subst Number (stands_whole (rw n at s.stands)) s.is
    go (Err (Malformed x)) s q = let z : ◌≡◌ {A = Bool} false true = q in let n : ◌≡◌ {A = ℕ} 0 1 = cc in absurd (omega arith)
    go (Err (Forbidden x)) s q = let z : ◌≡◌ {A = Bool} false true = q in let n : ◌≡◌ {A = ℕ} 0 1 = cc in absurd (omega arith)

pub number_tested : (w : List ℕ) → Number w → is_number w ≡ true
unfolding is_number
number_tested w d =
    go (number_at w 0) refl ((number_exact w).follow (length w + 1) 0 w (256 ∷ []) (omega arith) d (record { digits = refl; dots = refl; powers = refl }) like_whole)
  where
    go : (k : Result ℕ (Fault ℕ)) → number_at w 0 ≡ k → TokenFollows (length w + 1) (0 + length w) k → ends_at (length w) k ≡ true
    go (Ok to) p g = ⊎_elim (λ e. eq-eqb to (length w) (omega arith)) (λ e. absurd (omega (arith, e.word))) g
    go (Err (Malformed x)) p g = absurd (omega (arith, g.word))
    go (Err (Forbidden x)) p g = absurd (omega (arith, three_text w numeral 0 x p))
