-- Laws of contents, place by place:
--     char_low, char_high                 the place behind a character
--     text_on, text_over                  a text goes on behind it or is none, or is over
--     own_run, spelled_next               bytes that spell themselves, and one that may not
-- Assumes nothing.
use Rattle.std.specs.Prelude.{Option, Some, None, Result, Ok, Err}
use Rattle.text.specs.declared.Fault.{Fault}
use Rattle.text.specs.declared.Fault.TheVariants.{Malformed, Forbidden}
use mathlib.Core.Path.{◌≡◌, refl, sym, ap, ap₂, ◌∙◌}
use mathlib.Core.List.{List, [], ◌∷◌, ◌++◌, append_assoc}
use mathlib.Core.Bool.{true, false}
use Prim.Native.Nat.{ℕ, zero, suc, ◌+◌, ◌-◌, ◌≤◌, ◌<◌}
use native.Mathlib.Omega.{arith}
use lib.ListN.{length, take, drop, get_or, drop_of_length-le, get_or-eq_default}
use lib.Seq.{take_all}
use Rattle.std.proofs.lemmas.List.{get_or-drop, length-drop}
use borrow.Author.Tests.{lt-ltb, le-ltb}
use Rattle.laws.specs.Lists.{part_of}
use Rattle.laws.proofs.Places.{any_default, drop_byte}
use Rattle.laws.proofs.Parts.{part_here, part_more}
use Rattle.text.specs.Text.{byte_at}
use Rattle.text.specs.Chars.{raw_at}
use Rattle.text.specs.Writing.{spelled_bytes}
use Rattle.text.proofs.Grammar.Stands.{by_order}
use Rattle.text.proofs.Walks.{Length, char_inside}
use Rattle.text.proofs.Spelling.Taken.{high_step}
use Rattle.output.proofs.Own.{own_byte}
use Rattle.packing.specs.Fields.{text_from}
use Rattle.packing.proofs.Places.{part_split}
use Rattle.packing.proofs.Contents.{text_low, text_high, text_end}
use Rattle.vault.specs.Strings.{behind_step, char_end, Own, OwnRun, spelled_at}

-- ---- characters

module _ (w : List ℕ) (i : ℕ) where
  pub char_low : byte_at w i < 128 → char_end w i ≡ Some (i + 1)
  unfolding char_end
  char_low h = rw (lt-ltb (byte_at w i) 128 h)

  pub char_high : 128 ≤ byte_at w i → (s : Result (Option (ℕ × ℕ)) (Fault ℕ)) → raw_at w i (byte_at w i) ≡ s → char_end w i ≡ behind_step i s
  unfolding char_end
  char_high h s e = rw (le-ltb (byte_at w i) 128 h, e)

  -- past the end none stands
  raw_over : raw_at w i 256 ≡ Err (Forbidden i)
  unfolding raw_at
  raw_over = refl

  -- a raw character stands inside, and has a length
  pub raw_inside : byte_at w i ≤ 256 → 128 ≤ byte_at w i → {code n : ℕ} → raw_at w i (byte_at w i) ≡ Ok (Some (code, n)) → (i < length w) × Length n
  raw_inside l h {code} {n} e =
      by_order (byte_at w i) 256
      (λ k. let c = char_inside w i (high_step w i (byte_at w i) refl h k ∙ e) in (c.before_end, c.size))
      (λ k. let b : byte_at w i ≡ 256 = omega arith in
      let z : Err (Forbidden i) ≡ Ok (Some (code, n)) = sym raw_over ∙ ap (raw_at w i) (sym b) ∙ e in
      let y : ◌≡◌ {A = ℕ} 0 1 = cc in absurd (omega arith))

  -- what the place behind a character says of a text: it goes on there, or is none
  abbrev pub TextOn : Option ℕ → Type 0
  TextOn (Some next) = (i < next) × (text_from w i ≡ text_from w next)
  TextOn None = text_from w i ≡ false

  module _ (small : byte_at w i < 256) where
    high_on : 128 ≤ byte_at w i → (s : Result (Option (ℕ × ℕ)) (Fault ℕ)) → raw_at w i (byte_at w i) ≡ s → TextOn (behind_step i s)
    high_on h (Ok None) e = text_high w i h small ∙ rw e
    high_on h (Ok (Some (code, n))) e = let k = (raw_inside (omega arith) h e).1 in (omega (arith, k.some), text_high w i h small ∙ rw e)
    high_on h (Err (Malformed p)) e = text_high w i h small ∙ rw e
    high_on h (Err (Forbidden p)) e = text_high w i h small ∙ rw e

    pub text_on : TextOn (char_end w i)
    text_on =
        by_order (byte_at w i) 128
        (λ h. rw (char_low h) (omega arith, text_low w i h))
        (λ h. rw (char_high h (raw_at w i (byte_at w i)) refl) (high_on h (raw_at w i (byte_at w i)) refl))

  pub text_over : length w ≤ i → text_from w i ≡ true
  text_over h = let b : byte_at w i ≡ 256 = get_or-eq_default w 256 h in text_end w i (omega arith)

-- ---- strings

-- a part and one byte more
part_last : (w : List ℕ) (from at : ℕ) → from ≤ at → at < length w → part_of w from (at + 1) ≡ part_of w from at ++ (get_or w at 0 ∷ [])
part_last w from at h l =
    part_split w from at (at + 1) h (omega arith) (omega arith)
    ∙ ap (λ (v : List ℕ). part_of w from at ++ v)
    (part_more w at (at + 1) (omega arith) (omega arith) ∙ ap₂ (λ (b : ℕ) (v : List ℕ). b ∷ v) (any_default 256 0 w at l) (part_here w (at + 1)))

module _ (w : List ℕ) where
  -- bytes from one place up to another, which spell themselves: what is left to spell stands behind them
  own_next : (from at : ℕ) → from ≤ at → at < length w → Own (get_or w at 0) → spelled_bytes (drop from w) ≡ part_of w from at ++ spelled_bytes (drop at w)
      → spelled_bytes (drop from w) ≡ part_of w from (at + 1) ++ spelled_bytes (drop (at + 1) w)
  own_next from at h l own e =
      let d : drop at w ≡ get_or w at 0 ∷ drop (at + 1) w = drop_byte w at l ∙ ap (λ (b : ℕ). b ∷ drop (at + 1) w) (any_default 256 0 w at l) in
      let s : spelled_bytes (drop at w) ≡ get_or w at 0 ∷ spelled_bytes (drop (at + 1) w) =
      ap spelled_bytes d ∙ ap (λ (v : List ℕ). v ++ spelled_bytes (drop (at + 1) w)) (own_byte (get_or w at 0) own.low own.no_quote own.no_slash) in
      e ∙ ap (λ (v : List ℕ). part_of w from at ++ v) s
      ∙ sym (append_assoc (part_of w from at) (get_or w at 0 ∷ []) (spelled_bytes (drop (at + 1) w)))
      ∙ ap (λ (v : List ℕ). v ++ spelled_bytes (drop (at + 1) w)) (sym (part_last w from at h l))

  own_part : (from k : ℕ) → from + k ≤ length w → ((i : ℕ) → i < k → Own (get_or w (from + i) 0))
      → spelled_bytes (drop from w) ≡ part_of w from (from + k) ++ spelled_bytes (drop (from + k) w)
  own_part from zero h own = let e : from + 0 ≡ from = omega arith in rw (e, part_here w from)
  own_part from (suc k) h own =
      let e : from + suc k ≡ from + k + 1 = omega arith in
      rw e (own_next from (from + k) (omega arith) (omega arith) (own k (omega arith)) (own_part from k (omega arith) (λ i l. own i (omega arith))))

  -- bytes at the start of what stands from a place on
  pub own_run : (from : ℕ) → from ≤ length w → {k : ℕ} → OwnRun (take (length w - from) (drop from w)) k
      → (from + k ≤ length w) × (spelled_bytes (drop from w) ≡ part_of w from (from + k) ++ spelled_bytes (drop (from + k) w))
  own_run from h {k} o =
      let left : length (drop from w) ≡ length w - from = length-drop from w in
      let whole : take (length w - from) (drop from w) ≡ drop from w = take_all (length w - from) (drop from w) (omega arith) in
      let run : OwnRun (drop from w) k = rw whole at o in
      let fits : from + k ≤ length w = omega (arith, run.within, left) in
      (fits, own_part from k fits (λ i l. rw get_or-drop at (run.own i l)))

  -- the byte at a place, if there is one, and those behind it
  pub spelled_next : (i : ℕ) → spelled_bytes (drop i w) ≡ spelled_at w i ++ spelled_bytes (drop (i + 1) w)
  spelled_next i =
      by_order i (length w)
      (λ l. let d : drop i w ≡ get_or w i 0 ∷ drop (i + 1) w = drop_byte w i l ∙ ap (λ (b : ℕ). b ∷ drop (i + 1) w) (any_default 256 0 w i l) in
      rw (lt-ltb i (length w) l) (ap spelled_bytes d))
      (λ l. rw (le-ltb i (length w) l, drop_of_length-le w l, drop_of_length-le w {i = i + 1} (omega arith)))
