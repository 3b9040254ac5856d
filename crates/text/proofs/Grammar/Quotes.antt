-- RFC 8259's string is read as its grammar says (`string_exact`). What the reading of a string answers is known by the rules of spelling
-- (proofs/Spelling/Ends.antt); here they meet the grammar, in which a byte of 128 or more is a character by itself. Assumes nothing.
use Rattle.std.specs.Prelude.{Result, Ok, Err}
use Rattle.text.specs.declared.Fault.{Fault}
use Rattle.text.specs.declared.Fault.TheVariants.{Malformed, Forbidden}
use mathlib.Core.Path.{◌≡◌, refl, sym, ◌∙◌}
use mathlib.Core.List.{List, [], ◌∷◌, ◌++◌, append_assoc}
use mathlib.Core.Bool.{cond}
use mathlib.Core.Logic.{inl, inr}
use Prim.Native.Nat.{ℕ, suc, ◌+◌, ◌-◌, ◌≤◌, ◌<◌}
use native.Mathlib.Omega.{arith}
use native.Mathlib.Nat.{add-zero, le_refl}
use lib.ListN.{length, drop, length-append}
use lib.Dec.{eqb}
use Rattle.laws.specs.Lists.{part_of}
use Rattle.laws.proofs.Branches.{if_equal}
use Rattle.laws.proofs.Places.{inside}
use Rattle.laws.proofs.Splits.{first_there, beyond, within, there_part, length_part}
use Rattle.text.specs.Text.{byte_at}
use Rattle.text.specs.Strings.{string_end}
use Rattle.text.specs.Utf8.{utf8}
use Rattle.text.specs.Spelling.{Bare, HexDigit, Short, FourDigits, four, Spell, raw, short, unit, pair, Spells}
use Rattle.text.specs.Broken.{HexDigits, Cut, control, ended, letter, digit, Aims, high, escape}
use Rattle.text.specs.Abnf.{Star}
use Rattle.text.specs.Grammar.{Unescaped, JsonChar, JsonString, quoted}
use Rattle.text.proofs.Spelling.Codes.{by_utf8}
use Rattle.text.proofs.Spelling.Through.{SpellsTo}
use Rattle.text.proofs.Spelling.Ends.{ClosedString, Refused2, StringAnswer, answers, no3_ill}
use Rattle.text.proofs.Grammar.Stands.{by_order, BytesStand, Like, stands_join, stands_split, stands_to, stands_inside, one_stands, like_none, like_join, like_more, like_stands, like_here, like_tail, like_stuck}
use Rattle.text.proofs.Grammar.Exact.{HasWord, Begun, TokenSays, TokenFollows, Exact}

-- a string with its quotation marks
abbrev pub quoted_at : List ℕ → ℕ → Result ℕ (Fault ℕ)
quoted_at t at = cond (eqb (byte_at t at) 34) (string_end t (at + 1)) (Err (Malformed at))

-- ---- the rules of spelling and those of the grammar ----

letter_not_u : {b c : ℕ} → Short b c → b ≡ 117 → ⊥
letter_not_u Short.quote e = omega arith
letter_not_u Short.backslash e = omega arith
letter_not_u Short.slash e = omega arith
letter_not_u Short.backspace e = omega arith
letter_not_u Short.form_feed e = omega arith
letter_not_u Short.line_feed e = omega arith
letter_not_u Short.carriage_return e = omega arith
letter_not_u Short.tab e = omega arith

-- a letter of an escape, and a hexadecimal digit, whatever it stands for
abbrev EscapeLetter : ℕ → Type 0
EscapeLetter b = (c : ℕ) × Short b c

abbrev Hexadecimal : ℕ → Type 0
Hexadecimal b = (v : ℕ) × HexDigit b v

-- a byte that may stand raw
pub record Plain (x : ℕ) : Type 0 where
  pub no_control : 32 ≤ x
  pub byte : x < 256
  pub no_quote : x ≡ 34 → ⊥
  pub no_backslash : x ≡ 92 → ⊥

plain_unescaped : (x : ℕ) → Plain x → Unescaped x
plain_unescaped x p =
    by_order x 34 (λ h. Unescaped.low {x = x} (omega (arith, p.no_control)))
    (λ h. by_order x 92 (λ k. Unescaped.middle {x = x} (omega (arith, p.no_quote))) (λ k. Unescaped.high {x = x} (omega (arith, p.byte, p.no_backslash))))

unescaped_plain : {x : ℕ} → Unescaped x → Plain x
unescaped_plain (Unescaped.low b) = omega (arith, b.from, b.up_to)
unescaped_plain (Unescaped.middle b) = omega (arith, b.from, b.up_to)
unescaped_plain (Unescaped.high b) = omega (arith, b.from, b.up_to)

abbrev Plains : List ℕ → Type 0
Plains [] = Unit {0}
Plains (x ∷ w) = Plain x × Plains w

utf8_plain : (c : ℕ) → Bare c → Plains (utf8 c)
utf8_plain c u =
    let h = u.no_control in
    let k = u.no_quote in
    let l = u.no_backslash in
    by_utf8 Plains c (λ a. omega arith) (λ a b. omega arith) (λ a b. omega arith) (λ a. omega arith)

-- ---- what spells is a string of the grammar ----

plain_chars : (w : List ℕ) → Plains w → Star JsonChar w
plain_chars [] p = Star.none
plain_chars (x ∷ w) p = Star.more (JsonChar.unescaped (plain_unescaped x p.0)) (plain_chars w p.1)

pub star_join : {L : List ℕ → Type 0} {u v : List ℕ} → Star L u → Star L v → Star L (u ++ v)
star_join Star.none d = d
star_join {v} (Star.more {u = w} {v = x} c e) d = rw (append_assoc w x v) (Star.more c (star_join e d))

four_chars : {v : List ℕ} {c : ℕ} → FourDigits v c → Star JsonChar (92 ∷ 117 ∷ v)
four_chars (four a b c d) = Star.more (JsonChar.unicode (four a b c d)) Star.none

spell_chars : {w : List ℕ} {c : ℕ} → Spell w c → Star JsonChar w
spell_chars (raw {c} g u) = plain_chars (utf8 c) (utf8_plain c u)
spell_chars (short s) = Star.more (JsonChar.escape s) Star.none
spell_chars (unit g d) = four_chars d
spell_chars (pair {v} d h e k g) = star_join {u = 92 ∷ 117 ∷ v} (four_chars d) (four_chars e)

pub spells_chars : {w cs : List ℕ} → Spells w cs → Star JsonChar w
spells_chars Spells.none = Star.none
spells_chars (Spells.more s d) = star_join (spell_chars s) (spells_chars d)

-- the beginning of a character is completed
record Completed (begun : List ℕ) : Type 0 where
  more : List ℕ
  is : Star JsonChar (begun ++ more)

zero_digit : HexDigit 48 0
zero_digit = HexDigit.decimal {v = 0} (omega arith)

four_completed : {a b c d w x y z : ℕ} → HexDigit a w → HexDigit b x → HexDigit c y → HexDigit d z → Star JsonChar (92 ∷ 117 ∷ a ∷ b ∷ c ∷ d ∷ [])
four_completed a b c d = four_chars (four a b c d)

digits_completed : {w : List ℕ} → HexDigits w → length w < 4 → Completed (92 ∷ 117 ∷ w)
digits_completed HexDigits.none h = record { more = 48 ∷ 48 ∷ 48 ∷ 48 ∷ []; is = four_completed zero_digit zero_digit zero_digit zero_digit }
digits_completed (HexDigits.more a HexDigits.none) h = record { more = 48 ∷ 48 ∷ 48 ∷ []; is = four_completed a zero_digit zero_digit zero_digit }
digits_completed (HexDigits.more a (HexDigits.more b HexDigits.none)) h = record { more = 48 ∷ 48 ∷ []; is = four_completed a b zero_digit zero_digit }
digits_completed (HexDigits.more a (HexDigits.more b (HexDigits.more c HexDigits.none))) h = record { more = 48 ∷ []; is = four_completed a b c zero_digit }
digits_completed (HexDigits.more a (HexDigits.more b (HexDigits.more c (HexDigits.more d e)))) h = absurd (omega arith)

cut_completed : {begun : List ℕ} {b : ℕ} → Cut begun b → Completed begun
cut_completed (control h) = record { more = []; is = Star.none }
cut_completed (ended h) = record { more = []; is = Star.none }
cut_completed (letter n s) = record { more = 34 ∷ []; is = Star.more (JsonChar.escape Short.quote) Star.none }
cut_completed (digit d h n) = digits_completed d h

-- ---- what is told ----

-- a run that a list goes on with stands there
split_stands : (t : List ℕ) (i : ℕ) (w r : List ℕ) → drop i t ≡ w ++ r → BytesStand t i (i + length w) w
split_stands t i [] r e = rw add-zero BytesStand.done
split_stands t i (x ∷ w) r e =
    let l = within t i (x ∷ w) r e (omega arith) in
    let one : i + suc (length w) ≡ i + 1 + length w = omega arith in
    rw one (BytesStand.next (first_there t i x (w ++ r) e 256) (omega arith) (split_stands t (i + 1) w r (beyond t i (x ∷ []) (w ++ r) e)))

module _ (t : List ℕ) where
  -- what spells up to a place
  spelled_stands : {i q : ℕ} (s : SpellsTo t i q) → BytesStand t i q s.bytes
  spelled_stands {i} s = rw s.place at (split_stands t i s.bytes s.rest s.split)

  closed_stands : {i e : ℕ} → ClosedString t i e → BytesStand t i (e - 1) (part_of t i (e - 1))
  closed_stands {i} {e} a =
      let h = a.after in
      let l = a.within_text in
      let part = part_of t i (e - 1) in
      let n : i + length part ≡ e - 1 = omega (arith, length_part t i (e - 1) (omega arith) (omega arith)) in
      rw n at (split_stands t i part (drop (e - 1) t) (there_part t i (e - 1) (omega arith) (omega arith)))

  module _ (at : ℕ) (q : byte_at t at ≡ 34) where
    here : at < length t
    here = inside t at (omega arith)

    -- the beginning of a string: its quote, what spells, and the beginning of a character
    begun_string : {from p e : ℕ} → SpellsTo t (at + 1) from → (w : List ℕ) → Star JsonChar w → Like t e from w → at + 1 ≤ p → e ≤ length t → Begun t JsonString at p e
    begun_string s w d l k i =
        record {
          word = 34 ∷ (s.bytes ++ w) ++ 34 ∷ [];
          is = quoted (star_join (spells_chars s.spelled) d);
          like = Like.next (λ b. q) (like_more (34 ∷ []) (like_join (spelled_stands s) l));
          later = omega arith;
          within = i;
        }

    cut_begun : {p : ℕ} → Refused2 t (at + 1) p → Begun t JsonString at p p
    cut_begun {p} a =
        let c = a.cut in
        let m = cut_completed c.cut in
        let b : BytesStand t a.from p c.begun = rw (← c.place) at (split_stands t a.from c.begun c.rest c.split) in
        let s = spelled_stands a.spells in
        begun_string a.spells (c.begun ++ m.more) m.is (like_more m.more (like_stands b)) (omega (arith, stands_to s, stands_to b))
        (stands_inside b (stands_inside s (omega (arith, here))))

    aim_begun : {p : ℕ} {l : List ℕ} → SpellsTo t (at + 1) p → Aims l → drop p t ≡ l → Begun t JsonString at p (p + 1)
    aim_begun {p} s (high {b} {r} lo hi) e =
        let x = split_stands t p (b ∷ []) r e in
        let k = spelled_stands s in
        begun_string s (b ∷ []) (Star.more (JsonChar.unescaped (Unescaped.high {x = b} (omega arith))) Star.none) (like_stands x) (omega (arith, stands_to k))
        (stands_inside x (stands_inside k (omega (arith, here))))
    aim_begun {p} s (escape {w} d r) e =
        let x = split_stands t p (92 ∷ []) (117 ∷ w ++ r) e in
        let k = spelled_stands s in
        begun_string s (92 ∷ 117 ∷ w) (four_chars d) (like_more (117 ∷ w) (like_stands x)) (omega (arith, stands_to k))
        (stands_inside x (stands_inside k (omega (arith, here))))

    closed_string : {e : ℕ} → ClosedString t (at + 1) e → HasWord t JsonString at e
    closed_string {e} a =
        let h = a.after in
        let z : BytesStand t (e - 1) (e - 1 + 1) (34 ∷ []) = one_stands a.quote (omega arith) in
        let o : e - 1 + 1 ≡ e = omega arith in
        record { word = 34 ∷ part_of t (at + 1) (e - 1) ++ 34 ∷ []; is = quoted (spells_chars a.spelled); stands = BytesStand.next q here (stands_join (closed_stands a) (rw o at z)) }

    told_string : (k : Result ℕ (Fault ℕ)) → StringAnswer t (at + 1) k → TokenSays t JsonString at k
    told_string (Ok e) a = closed_string a
    told_string (Err (Malformed p)) a = cut_begun a
    told_string (Err (Forbidden p)) a = aim_begun a.spells a.ill.aims refl

  quoted_told : (at : ℕ) → at ≤ length t → TokenSays t JsonString at (quoted_at t at)
  quoted_told at i =
      if_equal (TokenSays t JsonString at) (byte_at t at) 34 (λ q. told_string at q (string_end t (at + 1)) (answers t (at + 1)))
      (λ q. record { word = 34 ∷ 34 ∷ []; is = quoted Star.none; like = like_none (34 ∷ 34 ∷ []) (le_refl at); later = le_refl at; within = i })

-- ---- what follows ----

-- the rest of a string that the text is like as far as q: from i to its closing quote at e, and then s
record Rest (t : List ℕ) (q : ℕ) (s : List ℕ) (e i : ℕ) : Type 0 where
  word : List ℕ
  is : Star JsonChar word
  like : Like t q i (word ++ 34 ∷ s)
  size : i + length word ≡ e

-- its next character, or its closing quote
data Ahead (t : List ℕ) (q : ℕ) (s : List ℕ) (e i : ℕ) : Type 0 where
  closing : i ≡ e → (i < q → byte_at t i ≡ 34) → Ahead t q s e i
  plain : (i < q → Plain (byte_at t i)) → Rest t q s e (i + 1) → Ahead t q s e i
  escaped : (i < q → byte_at t i ≡ 92) → (i + 1 < q → EscapeLetter (byte_at t (i + 1))) → Rest t q s e (i + 2) → Ahead t q s e i
  coded : (i < q → byte_at t i ≡ 92) → (i + 1 < q → byte_at t (i + 1) ≡ 117) → ((j : ℕ) → i + 2 ≤ j → j < i + 6 → j < q → Hexadecimal (byte_at t j))
      → Rest t q s e (i + 6) → Ahead t q s e i

hex_here : {t : List ℕ} {q at x : ℕ} {w : List ℕ} (j : ℕ) → Hexadecimal x → Like t q at (x ∷ w) → j ≡ at → j < q → Hexadecimal (byte_at t j)
hex_here {t} {at} {x} j h l n k = let b : byte_at t j ≡ x = rw n (like_here l (omega arith)) in rw b h

-- each place before `to`, and not behind the closing quote at e, is before q
abbrev Seen : (q e to : ℕ) → Type 0
Seen q e to = (j : ℕ) → j < to → j ≤ e → j < q

module _ {t : List ℕ} {q : ℕ} {s : List ℕ} {e : ℕ} where
  ahead : {i : ℕ} {w : List ℕ} → Star JsonChar w → Like t q i (w ++ 34 ∷ s) → i + length w ≡ e → Ahead t q s e i
  ahead {i} Star.none l n = closing (omega arith) (like_here l)
  ahead {i} (Star.more {v} (JsonChar.unescaped {x} u) d) l n =
      plain (λ k. rw (like_here l k) (unescaped_plain u)) (record { word = v; is = d; like = like_tail l; size = omega arith })
  ahead {i} (Star.more {v} (JsonChar.escape {x} u) d) l n =
      let two : i + 1 + 1 ≡ i + 2 = omega arith in
      escaped (like_here l) (λ k. rw (like_here (like_tail l) k) (_, u)) (record { word = v; is = d; like = rw two at (like_tail (like_tail l)); size = omega arith })
  ahead {i} (Star.more {v} (JsonChar.unicode (four x y z o)) r) l n =
      let l1 = like_tail (like_tail l) in
      let l2 = like_tail l1 in
      let l3 = like_tail l2 in
      let l4 = like_tail l3 in
      let six : i + 1 + 1 + 1 + 1 + 1 + 1 ≡ i + 6 = omega arith in
      coded (like_here l) (like_here (like_tail l))
      (λ j lo hi k. by_order j (i + 3) (λ h. hex_here j (_, x) l1 (omega arith) k)
      (λ f. by_order j (i + 4) (λ h. hex_here j (_, y) l2 (omega arith) k)
      (λ g. by_order j (i + 5) (λ h. hex_here j (_, z) l3 (omega arith) k) (λ h. hex_here j (_, o) l4 (omega arith) k))))
      (record { word = v; is = r; like = rw six at (like_tail l4); size = omega arith })

  next : {i : ℕ} → Rest t q s e i → Ahead t q s e i
  next r = ahead r.is r.like r.size

  -- a byte that may stand raw
  over_plain : {i : ℕ} → i < q → Plain (byte_at t i) → Ahead t q s e i → Rest t q s e (i + 1)
  over_plain {i} k p (closing n b) = absurd (p.no_quote (b k))
  over_plain {i} k p (plain b r) = r
  over_plain {i} k p (escaped b l r) = absurd (p.no_backslash (b k))
  over_plain {i} k p (coded b l d r) = absurd (p.no_backslash (b k))

  over_plains : {i to : ℕ} {w : List ℕ} → Plains w → BytesStand t i to w → Seen q e to → Rest t q s e i → Rest t q s e to
  over_plains p BytesStand.done k r = r
  over_plains {i} p (BytesStand.next b h st) k r =
      let n = stands_to st in
      over_plains p.1 st k (over_plain (k i (omega arith) (omega (arith, r.size))) (rw b p.0) (next r))

  -- an escape by a letter, and one by digits
  over_letter : {i : ℕ} → i < q → (i + 1 ≤ e → i + 1 < q) → byte_at t i ≡ 92 → (byte_at t (i + 1) ≡ 117 → ⊥) → Ahead t q s e i → Rest t q s e (i + 2) × EscapeLetter (byte_at t (i + 1))
  over_letter {i} k m b n (closing o c) = let h = c k in absurd (omega arith)
  over_letter {i} k m b n (plain c r) = absurd ((c k).no_backslash b)
  over_letter {i} k m b n (escaped c l r) = (r, l (m (omega (arith, r.size))))
  over_letter {i} k m b n (coded c l d r) = absurd (n (l (m (omega (arith, r.size)))))

  over_digits : {i : ℕ} → i < q → (i + 1 ≤ e → i + 1 < q) → byte_at t i ≡ 92 → byte_at t (i + 1) ≡ 117 → Ahead t q s e i
      → Rest t q s e (i + 6) × ((j : ℕ) → i + 2 ≤ j → j < i + 6 → j < q → Hexadecimal (byte_at t j))
  over_digits {i} k m b n (closing o c) = let h = c k in absurd (omega arith)
  over_digits {i} k m b n (plain c r) = absurd ((c k).no_backslash b)
  over_digits {i} k m b n (escaped c l r) = absurd (letter_not_u (l (m (omega (arith, r.size)))).1 n)
  over_digits {i} k m b n (coded c l d r) = (r, d)

  over_four : {i to v : ℕ} {w : List ℕ} → FourDigits w v → BytesStand t i to (92 ∷ 117 ∷ w) → Seen q e to → Rest t q s e i → Rest t q s e to
  over_four {i} (four d1 d2 d3 d4) (BytesStand.next a h (BytesStand.next b o (BytesStand.next x1 y1 (BytesStand.next x2 y2 (BytesStand.next x3 y3 (BytesStand.next x4 y4 BytesStand.done)))))) k r =
      let six : i + 6 ≡ i + 1 + 1 + 1 + 1 + 1 + 1 = omega arith in
      rw six at (over_digits (k i (omega arith) (omega (arith, r.size))) (λ l. k (i + 1) (omega arith) l) a b (next r)).0

  -- what spells a character
  over_spelled : {i to c : ℕ} {w : List ℕ} → Spell w c → BytesStand t i to w → Seen q e to → Rest t q s e i → Rest t q s e to
  over_spelled (raw {c} g u) st k r = over_plains (utf8_plain c u) st k r
  over_spelled {i} (short m) (BytesStand.next a h (BytesStand.next b o BytesStand.done)) k r =
      let two : i + 2 ≡ i + 1 + 1 = omega arith in
      rw two at (over_letter (k i (omega arith) (omega (arith, r.size))) (λ l. k (i + 1) (omega arith) l) a (λ z. letter_not_u m (sym b ∙ z)) (next r)).0
  over_spelled (unit g d) st k r = over_four d st k r
  over_spelled (pair {v} d h f l g) st k r =
      let c = stands_split (92 ∷ 117 ∷ v) st in
      let n = stands_to c.2 in
      over_four f c.2 k (over_four d c.1 (λ j l. k j (omega arith)) r)

  over_spells : {w cs : List ℕ} {i to : ℕ} → Spells w cs → BytesStand t i to w → Seen q e to → Rest t q s e i → Rest t q s e to
  over_spells Spells.none BytesStand.done k r = r
  over_spells (Spells.more {w} m d) st k r =
      let c = stands_split w st in
      let n = stands_to c.2 in
      over_spells d c.2 k (over_spelled m c.1 (λ j l. k j (omega arith)) r)

  -- where the text has a quote, the string ends
  at_quote : {i : ℕ} → i < q → byte_at t i ≡ 34 → Ahead t q s e i → i ≡ e
  at_quote {i} k b (closing o c) = o
  at_quote {i} k b (plain c r) = absurd ((c k).no_quote b)
  at_quote {i} k b (escaped c l r) = absurd (omega (arith, c k))
  at_quote {i} k b (coded c l d r) = absurd (omega (arith, c k))

  -- a byte that can't continue the string is not seen
  small_here : {i : ℕ} → i < q → Ahead t q s e i → (32 ≤ byte_at t i) × (byte_at t i < 256)
  small_here {i} k (closing o c) = omega (arith, c k)
  small_here {i} k (plain c r) = omega (arith, (c k).no_control, (c k).byte)
  small_here {i} k (escaped c l r) = omega (arith, c k)
  small_here {i} k (coded c l d r) = omega (arith, c k)

  at_cut : {i p : ℕ} {w : List ℕ} → Cut w (byte_at t p) → BytesStand t i p w → Seen q e (p + 1) → Rest t q s e i → ⊥
  at_cut {i} (control h) BytesStand.done k r = omega (arith, small_here (k i (omega arith) (omega (arith, r.size))) (next r))
  at_cut {i} (ended h) BytesStand.done k r = omega (arith, small_here (k i (omega arith) (omega (arith, r.size))) (next r))
  at_cut {i} (letter n m) (BytesStand.next a h BytesStand.done) k r =
      let l = (over_letter (k i (omega arith) (omega (arith, r.size))) (λ o. k (i + 1) (omega arith) o) a n (next r)).1 in
      m l.0 l.1
  at_cut {i} {p} (digit d h n) (BytesStand.next a o (BytesStand.next b u st)) k r =
      let l = stands_to st in
      let c = over_digits (k i (omega arith) (omega (arith, r.size))) (λ o. k (i + 1) (omega arith) o) a b (next r) in
      let g = c.1 p (omega arith) (omega arith) (k p (omega arith) (omega (arith, c.0.size))) in
      n g.0 g.1

string_follow : (t : List ℕ) (q at : ℕ) (w s : List ℕ) → JsonString w → Like t q at (w ++ s) → TokenFollows q (at + length w) (quoted_at t at)
string_follow t q at w s (quoted {w = v} d) l =
    if_equal (TokenFollows q (at + suc (length (v ++ 34 ∷ [])))) (byte_at t at) 34 (λ b. go (string_end t (at + 1)) (answers t (at + 1)))
    (λ b. let k = like_stuck l b in record { word = omega arith; answer = k })
  where
    -- behind the closing quote
    size : at + suc (length (v ++ 34 ∷ [])) ≡ at + 1 + length v + 1
    size = omega (arith, length-append v (34 ∷ []))

    rest : Rest t q s (at + 1 + length v) (at + 1)
    rest = record { word = v; is = d; like = rw (append_assoc v (34 ∷ []) s) at (like_tail l); size = refl }

    closed : (e : ℕ) → ClosedString t (at + 1) e → Seen q (at + 1 + length v) (e - 1) → (e - 1 ≤ at + 1 + length v → e - 1 < q) → e ≡ at + 1 + length v + 1
    closed e a k m =
        let h = a.after in
        let r = over_spells a.spelled (closed_stands t a) k rest in
        omega (arith, at_quote (m (omega (arith, r.size))) a.quote (next r))

    no_cut : (p : ℕ) → Refused2 t (at + 1) p → Seen q (at + 1 + length v) (p + 1) → ⊥
    no_cut p a k =
        let c = a.cut in
        let b : BytesStand t a.from p c.begun = rw (← c.place) at (split_stands t a.from c.begun c.rest c.split) in
        let n = stands_to b in
        at_cut c.cut b k (over_spells a.spells.spelled (spelled_stands t a.spells) (λ j h. k j (omega arith)) rest)

    go : (k : Result ℕ (Fault ℕ)) → StringAnswer t (at + 1) k → TokenFollows q (at + suc (length (v ++ 34 ∷ []))) k
    go (Ok e) a =
        by_order (at + 1 + length v) q
        (λ k. inl (omega (arith, size, closed e a (λ j h m. omega arith) (λ m. omega arith))))
        (λ k. by_order (e - 1) q (λ h. inl (omega (arith, size, closed e a (λ j m n. omega arith) (λ m. h)))) (λ h. inr (record { word = omega (arith, size); answer = omega arith })))
    go (Err (Malformed p)) a =
        by_order (at + 1 + length v) q (λ k. absurd (no_cut p a (λ j h m. omega arith)))
        (λ k. by_order p q (λ h. absurd (no_cut p a (λ j m n. omega arith))) (λ h. record { word = omega (arith, size); answer = h }))
    go (Err (Forbidden p)) a =
        by_order (at + 1 + length v) q
        (λ k. let r = over_spells a.spells.spelled (spelled_stands t a.spells) (λ j h m. omega arith) rest in inr (omega (arith, size, r.size)))
        (λ k. inl (omega (arith, size)))

pub string_exact : (t : List ℕ) → Exact t JsonString (λ z. Unit {0}) (quoted_at t)
string_exact t =
    record { some_word = 34 ∷ 34 ∷ []; has = quoted Star.none; told = λ at i. quoted_told t at i; follow = λ q at w s i d o l. string_follow t q at w s d l }

-- a refusal with 3 stands behind the opening quote
pub bad_later : (t : List ℕ) (at x : ℕ) → quoted_at t at ≡ Err (Forbidden x) → at < x
bad_later t at x =
    if_equal (λ (k : Result ℕ (Fault ℕ)). k ≡ Err (Forbidden x) → at < x) (byte_at t at) 34
    (λ b e. omega (arith, (no3_ill t (at + 1) x e).spells.place))
    (λ b e. let z : ◌≡◌ {A = ℕ} 0 1 = cc in absurd (omega arith))

pub string_long : {w : List ℕ} → JsonString w → 2 ≤ length w
string_long (quoted {w} d) = omega (arith, length-append w (34 ∷ []))
