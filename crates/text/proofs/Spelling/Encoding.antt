-- The UTF-8 of good code points:
--     utf8s-injective      two lists of good code points that have the same UTF-8 are the same
--     spells-good          what is spelled is good, so (same_codes) two strings decode to the same bytes exactly if they have the same code points
-- Assumes nothing.
use mathlib.Core.Path.{◌≡◌, refl, sym, ap, ap₂, ◌∙◌}
use mathlib.Core.List.{List, [], ◌∷◌, ◌++◌, append_cancel_left}
use Prim.Native.Nat.{ℕ, ◌≤◌, ◌<◌}
use native.Mathlib.Decide.{dec_lt}
use native.Mathlib.Omega.{arith}
use lib.ListN.{get_or}
use Rattle.text.specs.Strings.{decode}
use Rattle.text.specs.Utf8.{utf8}
use Rattle.text.specs.Spelling.{Good, Spell, raw, short, unit, pair, Spells, none, more, utf8s}
use Rattle.text.proofs.Spelling.Codes.{ascii_good, by_utf8}
use Rattle.text.proofs.Spelling.Digits.{short_some}
use Rattle.text.proofs.Spelling.Characters.{one_char}
use Rattle.text.proofs.Spelling.Decoded.{decode_spelled}

-- ---- it tells good code points apart ----

-- the first byte of ASCII is the code point, and that of any other is no ASCII
record First (c b : ℕ) : Type 0 where
  ascii : c < 128 → b ≡ c
  other : 128 ≤ c → 128 ≤ b

first_byte : (c : ℕ) (x : List ℕ) → First c (get_or (utf8 c ++ x) 0 256)
first_byte c x = by_utf8 (λ w. First c (get_or (w ++ x) 0 256)) c (λ h. omega arith) (λ h k. omega arith) (λ h k. omega arith) (λ h. omega arith)

same_first : (c d : ℕ) (x y : List ℕ) → Good c → Good d → utf8 c ++ x ≡ utf8 d ++ y → c ≡ d
same_first c d x y g h e =
    let p = first_byte c x in
    let q = first_byte d y in
    let b : get_or (utf8 c ++ x) 0 256 ≡ get_or (utf8 d ++ y) 0 256 = ap (λ (w : List ℕ). get_or w 0 256) e in
    elim (dec_lt c 128) [
      | yes k ↦
          let k1 = p.ascii k in
          elim (dec_lt d 128) [ yes l ↦ (let l1 = q.ascii l in omega arith) | no l ↦ (let l1 = q.other (omega arith) in absurd (omega arith)) ]
      | no k ↦
          let k1 = p.other (omega arith) in
          elim (dec_lt d 128) [
            | yes l ↦ let l1 = q.ascii l in absurd (omega arith)
            | no l ↦ one_char (raw g (omega arith)) (raw h (omega arith)) x y e
          ]
    ]

abbrev pub AllGood : List ℕ → Type 0
AllGood [] = Prim.Unit {0}
AllGood (c ∷ cs) = Good c × AllGood cs

not_none : {A : Type 0} (c : ℕ) (x : List ℕ) → [] ≡ utf8 c ++ x → A
not_none {A} c x =
    by_utf8 (λ w. [] ≡ w ++ x → A) c (λ h e. absurd (clash e)) (λ h k e. absurd (clash e)) (λ h k e. absurd (clash e)) (λ h e. absurd (clash e))
  where
    clash : {b : ℕ} {r : List ℕ} → [] ≡ b ∷ r → ⊥
    clash e = let z : ◌≡◌ {A = ℕ} 0 1 = cc in omega arith

pub utf8s_injective : (cs ds : List ℕ) → AllGood cs → AllGood ds → utf8s cs ≡ utf8s ds → cs ≡ ds
unfolding utf8s
utf8s_injective [] [] g h e = refl
utf8s_injective [] (d ∷ ds) g h e = not_none d (utf8s ds) e
utf8s_injective (c ∷ cs) [] g h e = not_none c (utf8s cs) (sym e)
utf8s_injective (c ∷ cs) (d ∷ ds) g h e =
    let p : c ≡ d = same_first c d (utf8s cs) (utf8s ds) g.0 h.0 e in
    let q : utf8s cs ≡ utf8s ds = append_cancel_left (utf8 c) (utf8s cs) (utf8s ds) (rw (← p) at e) in
    ap₂ (λ (x : ℕ) (xs : List ℕ). x ∷ xs) p (utf8s_injective cs ds g.1 h.1 q)

-- ---- what is spelled ----

pub spell_good : {w : List ℕ} {c : ℕ} → Spell w c → Good c
spell_good (raw g u) = g
spell_good (short {c = c} s) = ascii_good c (short_some s).ascii
spell_good (unit g d) = g
spell_good (pair d h f l g) = g

pub spells_good : {w cs : List ℕ} → Spells w cs → AllGood cs
spells_good none = tt
spells_good (more s r) = (spell_good s, spells_good r)

pub same_codes : {v w cs ds : List ℕ} → Spells v cs → Spells w ds → decode v ≡ decode w → cs ≡ ds
same_codes {cs = cs} {ds = ds} p q e = utf8s_injective cs ds (spells_good p) (spells_good q) (sym (decode_spelled p) ∙ e ∙ decode_spelled q)
