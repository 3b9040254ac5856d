-- States and the words that are kept of them (specs/Held.antt):
--     Fits            what has words: every state that words mean, and all that follow from one (`fits_at`, `fits_feed`, `fits_piece`)
--     round           the words of such a state mean it
--     opened-..       the open brackets as bits
--     finish-over     at the end there is an answer
-- Assumes nothing.
use Rattle.std.specs.Prelude.{Option, Some, None, Result, Ok, Err}
use Rattle.text.specs.declared.Fault.{Fault}
use Rattle.text.specs.declared.Fault.TheVariants.{Malformed, Forbidden}
use Rattle.text.specs.declared.Refusal.{Refusal}
use mathlib.Core.Path.{◌≡◌, refl, ap}
use mathlib.Core.List.{List, [], ◌∷◌}
use mathlib.Core.Bool.{Bool, true, false, cond}
use Prim.Native.Nat.{ℕ, zero, suc, ◌+◌, ◌-◌, ◌*◌, ◌/◌, ◌%◌, ◌≤◌, ◌<◌}
use native.Mathlib.Nat.{add-zero}
use native.Mathlib.Omega.{arith}
use lib.ListN.{length, get_or}
use lib.Dec.{ltb}
use borrow.Author.Tests.{lt-ltb, le-ltb}
use Rattle.laws.specs.Each.{Each, none, more}
use Rattle.laws.proofs.Branches.{if_less, if_equal, if_most, if_true}
use Rattle.text.specs.Limits.{Limits}
use Rattle.text.specs.Text.{bytes}
use Rattle.text.specs.Chars.{digit_of, tail_of, letter_of}
use Rattle.text.specs.Tokens.{is_space, kind_by}
use Rattle.text.specs.Grammar.{closing}
use Rattle.text.specs.Tree.{Bracket, square, curly}
use Rattle.text.specs.Sheet.{refused, paper}
use Rattle.text.specs.declared.Refusal.TheVariants.{TooLong, Grammar, Character, Repeated, Deep, Many, Small}
use Rattle.wire.specs.declared.Figure.{Figure}
use Rattle.wire.specs.declared.Figure.TheVariants.{Minus, Nought, Whole, Point, Fraction, Exponent, Sign, Digits}
use Rattle.wire.specs.declared.Turn.{Turn}
use Rattle.wire.specs.declared.Turn.TheVariants.{Goes, Ends, Stuck}
use Rattle.wire.specs.Figures.{turn_of}
use Rattle.wire.specs.Inners.{checked, unit_move, hex_move, tail_move, move3, move4, lead_move, paired, move_of, sound}
use Rattle.wire.specs.declared.Inner.{Inner}
use Rattle.wire.specs.declared.Inner.TheVariants.{Plain, Escape, Four, Pair, PairU, Low1, Low2, Low3, Low4, Second3, Second4, Tails}
use Rattle.wire.specs.declared.Held.{Held}
use Rattle.wire.specs.Machine.{Spot, value, first, name, colon, after, word, number, string, key, State, going, over, counted, opens, spot_of, begins, quotes, items, firsts, behind_comma, closes, after_of, word_on, on_turn, on_move, feed, finish, taken, piece}
use Rattle.wire.specs.Held.{opened_of, bits_of, figure_at, figure_code, literal_at, literal_code, inner_at, four_code, tails_code, inner_code, inner_from, inner_bits, inner_high, spot_at, told_at, state_at, state_of, held_of, words_of, held_in}
use Rattle.wire.proofs.Whole.{Over, told, over_ended, Awaits, spot_end}

-- ---- the open brackets

pub opened_round : (os : List Bracket) → opened_of (length os) (bits_of os) ≡ os
unfolding opened_of bits_of
opened_round [] = refl
opened_round (square ∷ os) =
    let low : (0 + 2 * bits_of os) % 2 ≡ 0 = omega arith in
    let high : (0 + 2 * bits_of os) / 2 ≡ bits_of os = omega arith in
    rw (low, high) (ap (λ (ps : List Bracket). square ∷ ps) (opened_round os))
opened_round (curly ∷ os) =
    let low : (1 + 2 * bits_of os) % 2 ≡ 1 = omega arith in
    let high : (1 + 2 * bits_of os) / 2 ≡ bits_of os = omega arith in
    rw (low, high) (ap (λ (ps : List Bracket). curly ∷ ps) (opened_round os))

pub opened_length : (depth bits : ℕ) → length (opened_of depth bits) ≡ depth
unfolding opened_of
opened_length zero bits = refl
opened_length (suc depth) bits = ap suc (opened_length depth (bits / 2))

-- ---- what has words

-- so many digits or bytes as can be left
abbrev pub InnerFits : Inner → Type 0
InnerFits Plain = Prim.Unit {0}
InnerFits (Escape from) = Prim.Unit {0}
InnerFits (Four from left v) = left ≤ 3
InnerFits (Pair from high) = Prim.Unit {0}
InnerFits (PairU from high) = Prim.Unit {0}
InnerFits (Low1 from high) = Prim.Unit {0}
InnerFits (Low2 from high) = Prim.Unit {0}
InnerFits (Low3 from high v) = Prim.Unit {0}
InnerFits (Low4 from high v) = Prim.Unit {0}
InnerFits (Second3 from c) = Prim.Unit {0}
InnerFits (Second4 from c) = Prim.Unit {0}
InnerFits (Tails from left c) = left ≤ 1

-- the ends of the three literals
pub data Literal : ℕ → List ℕ → Type 0 where
  n_ull : Literal 117 (bytes "ll")
  nu_ll : Literal 108 (bytes "l")
  nul_l : Literal 108 []
  f_alse : Literal 97 (bytes "lse")
  fa_lse : Literal 108 (bytes "se")
  fal_se : Literal 115 (bytes "e")
  fals_e : Literal 101 []
  t_rue : Literal 114 (bytes "ue")
  tr_ue : Literal 117 (bytes "e")

abbrev pub SpotFits : Spot → Type 0
SpotFits value = Prim.Unit {0}
SpotFits first = Prim.Unit {0}
SpotFits name = Prim.Unit {0}
SpotFits colon = Prim.Unit {0}
SpotFits after = Prim.Unit {0}
SpotFits (word c bs) = Literal c bs
SpotFits (number f) = Prim.Unit {0}
SpotFits (string s) = InnerFits s
SpotFits (key s) = InnerFits s

-- 4 and 7 are never answered
abbrev pub Tells : Result ℕ Refusal → Type 0
Tells (Ok n) = Prim.Unit {0}
Tells (Err TooLong) = Prim.Unit {0}
Tells (Err (Grammar p)) = Prim.Unit {0}
Tells (Err (Character p)) = Prim.Unit {0}
Tells (Err (Repeated p)) = ⊥
Tells (Err (Deep p)) = Prim.Unit {0}
Tells (Err (Many p)) = Prim.Unit {0}
Tells (Err (Small n)) = ⊥

-- after so many bytes
abbrev pub Fits : (place : ℕ) → State → Type 0
Fits i (going j n os spot) = (j ≡ i) × SpotFits spot
Fits i (over a) = Tells a

-- ---- a byte keeps that

abbrev pub MoveFits : Result (Option Inner) (Fault ℕ) → Type 0
MoveFits (Ok (Some s)) = InnerFits s
MoveFits (Ok None) = Prim.Unit {0}
MoveFits (Err (Malformed p)) = Prim.Unit {0}
MoveFits (Err (Forbidden p)) = Prim.Unit {0}

move_cond : (x : Bool) (a b : Result (Option Inner) (Fault ℕ)) → MoveFits a → MoveFits b → MoveFits (cond x a b)
move_cond true a b p q = p
move_cond false a b p q = q

checked_fits : (from c : ℕ) → MoveFits (checked from c)
unfolding checked
checked_fits from c = move_cond (sound c) (Ok (Some Plain)) (Err (Forbidden from)) tt tt

hex_fits : (from left v : ℕ) → left ≤ 3 → MoveFits (hex_move from left v)
unfolding hex_move unit_move
hex_fits from (suc left) v h = omega arith
hex_fits from zero v h =
    move_cond (ltb v 0xD800) (checked from v) (cond (ltb v 0xDC00) (Ok (Some (Pair from v))) (checked from v)) (checked_fits from v)
    (move_cond (ltb v 0xDC00) (Ok (Some (Pair from v))) (checked from v) tt (checked_fits from v))

tail_fits : (from left c : ℕ) → left ≤ 1 → MoveFits (tail_move from left c)
unfolding tail_move
tail_fits from zero c h = checked_fits from c
tail_fits from (suc left) c h = omega arith

three_fits : (from c : ℕ) → MoveFits (move3 from c)
unfolding move3
three_fits from c =
    if_less MoveFits c 32 (λ h. tt) (λ h. if_less MoveFits c 864 (λ m. omega arith) (λ m. if_less MoveFits c 896 (λ o. tt) (λ o. omega arith)))

four_fits : (from c : ℕ) → MoveFits (move4 from c)
unfolding move4
four_fits from c = if_less MoveFits c 16 (λ h. tt) (λ h. if_less MoveFits c 272 (λ m. omega arith) (λ m. tt))

lead_fits : (i b : ℕ) → MoveFits (lead_move i b)
unfolding lead_move
lead_fits i b =
    if_less MoveFits b 194 (λ h. tt)
    (λ h. if_less MoveFits b 224 (λ m. omega arith)
    (λ m. if_less MoveFits b 240 (λ o. tt) (λ o. if_less MoveFits b 245 (λ p. tt) (λ p. tt))))

pub move_fits : (i : ℕ) (s : Inner) (b : ℕ) → InnerFits s → MoveFits (move_of i s b)
unfolding move_of
move_fits i Plain b h =
    if_equal MoveFits b 34 (λ k. tt)
    (λ k. if_equal MoveFits b 92 (λ m. tt)
    (λ m. if_less MoveFits b 32 (λ o. tt) (λ o. if_less MoveFits b 128 (λ p. tt) (λ p. if_less MoveFits b 256 (λ q. lead_fits i b) (λ q. tt)))))
move_fits i (Escape from) b h = if_equal MoveFits b 117 (λ k. omega arith) (λ k. if_equal MoveFits (letter_of b) 0 (λ m. tt) (λ m. tt))
move_fits i (Four from left v) b h = if_equal MoveFits (digit_of b) 16 (λ k. tt) (λ k. hex_fits from left (v % 4096 * 16 + digit_of b) h)
move_fits i (Pair from high) b h = if_equal MoveFits b 92 (λ k. tt) (λ k. tt)
move_fits i (PairU from high) b h = if_equal MoveFits b 117 (λ k. tt) (λ k. tt)
move_fits i (Low1 from high) b h = if_equal MoveFits (digit_of b) 13 (λ k. tt) (λ k. tt)
move_fits i (Low2 from high) b h = if_less MoveFits (digit_of b) 12 (λ k. tt) (λ k. if_equal MoveFits (digit_of b) 16 (λ m. tt) (λ m. tt))
move_fits i (Low3 from high v) b h = if_equal MoveFits (digit_of b) 16 (λ k. tt) (λ k. tt)
move_fits i (Low4 from high v) b h = if_equal MoveFits (digit_of b) 16 (λ k. tt) (λ k. checked_fits from (paired high (v % 64 * 16 + digit_of b)))
move_fits i (Second3 from c) b h = if_less MoveFits 63 (tail_of b) (λ k. tt) (λ k. three_fits from (c % 65536 * 64 + tail_of b))
move_fits i (Second4 from c) b h = if_less MoveFits 63 (tail_of b) (λ k. tt) (λ k. four_fits from (c % 65536 * 64 + tail_of b))
move_fits i (Tails from left c) b h = if_less MoveFits 63 (tail_of b) (λ k. tt) (λ k. tail_fits from left (c % 65536 * 64 + tail_of b) h)

module _ (L : Limits) (i n b : ℕ) where
  abbrev Next : State → Type 0
  Next = Fits (i + 1)

  spot_fits : (kind : ℕ) → SpotFits (spot_of kind b)
  unfolding spot_of
  spot_fits kind =
      if_equal SpotFits kind 1 (λ h. n_ull)
      (λ h. if_equal SpotFits kind 2 (λ m. f_alse) (λ m. if_equal SpotFits kind 3 (λ o. t_rue) (λ o. if_equal SpotFits kind 4 (λ p. tt) (λ p. tt))))

  counted_fits : (s : State) → Next s → Next (counted L i n s)
  unfolding counted
  counted_fits s h = if_most Next L.values n (λ k. tt) (λ k. h)

  opens_fits : (c : Bracket) (os : List Bracket) → Next (opens L c i n os)
  unfolding opens
  opens_fits c os = if_most Next L.depth (length os) (λ k. tt) (λ k. counted_fits (going (i + 1) (n + 1) (c ∷ os) first) (refl, tt))

  begins_fits : (os : List Bracket) → Next (begins L i n os b)
  unfolding begins
  begins_fits os =
      let kind = kind_by b in
      if_equal Next kind 0 (λ h. tt)
      (λ h. if_equal Next kind 6 (λ m. opens_fits square os)
      (λ m. if_equal Next kind 7 (λ o. opens_fits curly os) (λ o. counted_fits (going (i + 1) (n + 1) os (spot_of kind b)) (refl, spot_fits kind))))

  quotes_fits : (os : List Bracket) → Next (quotes i n os b)
  unfolding quotes
  quotes_fits os = if_equal Next b 34 (λ h. (refl, tt)) (λ h. tt)

  items_fits : (c : Bracket) (os : List Bracket) → Next (items L c i n os b)
  unfolding items
  items_fits square os = begins_fits os
  items_fits curly os = quotes_fits os

  firsts_fits : (os : List Bracket) → Next (firsts L i n os b)
  unfolding firsts
  firsts_fits [] = tt
  firsts_fits (c ∷ os) = if_equal Next b (closing c) (λ h. (refl, tt)) (λ h. items_fits c (c ∷ os))

  comma_fits : (c : Bracket) → SpotFits (behind_comma c)
  comma_fits square = tt
  comma_fits curly = tt

  closes_fits : (os : List Bracket) → Next (closes i n os b)
  unfolding closes
  closes_fits [] = if_equal Next b 256 (λ h. tt) (λ h. tt)
  closes_fits (c ∷ os) = if_equal Next b (closing c) (λ h. (refl, tt)) (λ h. if_equal Next b 44 (λ m. (refl, comma_fits c)) (λ m. tt))

  after_fits : (os : List Bracket) → Next (after_of i n os b)
  unfolding after_of
  after_fits os = if_true Next (is_space b) (λ h. (refl, tt)) (λ h. closes_fits os)

  word_fits : (os : List Bracket) {c : ℕ} {bs : List ℕ} → Literal c bs → Next (word_on (i + 1) n os bs)
  unfolding word_on
  word_fits os n_ull = (refl, nu_ll)
  word_fits os nu_ll = (refl, nul_l)
  word_fits os nul_l = (refl, tt)
  word_fits os f_alse = (refl, fa_lse)
  word_fits os fa_lse = (refl, fal_se)
  word_fits os fal_se = (refl, fals_e)
  word_fits os fals_e = (refl, tt)
  word_fits os t_rue = (refl, tr_ue)
  word_fits os tr_ue = (refl, fals_e)

  turn_fits : (os : List Bracket) (x : Turn) → Next (on_turn i n os b x)
  unfolding on_turn
  turn_fits os (Goes f) = (refl, tt)
  turn_fits os Ends = after_fits os
  turn_fits os Stuck = tt

  on_fits : (os : List Bracket) (inside : Inner → Spot) (behind : Spot) → ((s : Inner) → InnerFits s → SpotFits (inside s)) → SpotFits behind
      → (m : Result (Option Inner) (Fault ℕ)) → MoveFits m → Next (on_move i n os inside behind m)
  unfolding on_move
  on_fits os inside behind ok o (Ok (Some s)) h = (refl, ok s h)
  on_fits os inside behind ok o (Ok None) h = (refl, o)
  on_fits os inside behind ok o (Err (Malformed p)) h = tt
  on_fits os inside behind ok o (Err (Forbidden p)) h = tt

  going_fits : (os : List Bracket) (spot : Spot) → SpotFits spot → Next (feed L (going i n os spot) b)
  unfolding feed
  going_fits os value k = if_true Next (is_space b) (λ h. (refl, tt)) (λ h. begins_fits os)
  going_fits os first k = if_true Next (is_space b) (λ h. (refl, tt)) (λ h. firsts_fits os)
  going_fits os name k = if_true Next (is_space b) (λ h. (refl, tt)) (λ h. quotes_fits os)
  going_fits os colon k = if_true Next (is_space b) (λ h. (refl, tt)) (λ h. if_equal Next b 58 (λ m. (refl, tt)) (λ m. tt))
  going_fits os after k = after_fits os
  going_fits os (word c bs) k = if_equal Next b c (λ h. word_fits os k) (λ h. tt)
  going_fits os (number f) k = turn_fits os (turn_of f b)
  going_fits os (string s) k = on_fits os (λ x. string x) after (λ x o. o) tt (move_of i s b) (move_fits i s b k)
  going_fits os (key s) k = on_fits os (λ x. key x) colon (λ x o. o) tt (move_of i s b) (move_fits i s b k)

pub fits_feed : (L : Limits) (i : ℕ) (s : State) (b : ℕ) → Fits i s → Fits (i + 1) (feed L s b)
unfolding feed
fits_feed L i (over a) b h = h
fits_feed L i (going j n os spot) b h = rw (← h.0) (going_fits L j n b os spot h.1)

fits_taken : (L : Limits) (i : ℕ) (s : State) (b : ℕ) → Fits i s → Fits (i + 1) (taken L s b)
unfolding taken
fits_taken L i (over a) b h = h
fits_taken L i (going j n os spot) b h = if_most (Fits (i + 1)) L.bytes j (λ k. tt) (λ k. fits_feed L i (going j n os spot) b h)

pub fits_piece : (L : Limits) (i : ℕ) (s : State) (p : List ℕ) → Fits i s → Fits (i + length p) (piece L s p)
unfolding piece
fits_piece L i s [] h = rw (add-zero i) h
fits_piece L i s (b ∷ p) h =
    let e : i + length (b ∷ p) ≡ i + 1 + length p = omega arith in
    rw e (fits_piece L (i + 1) (taken L s b) p (fits_taken L i s b h))

-- ---- what words mean has words

one_of : {A : Type 0} (P : A → Type 0) (xs : List A) (k : ℕ) (d : A) → Each P xs → P d → P (get_or xs k d)
one_of P [] k d none h = h
one_of P (x ∷ xs) zero d (more g e) h = g
one_of P (x ∷ xs) (suc k) d (more g e) h = one_of P xs k d e h

literal_fits : (k : ℕ) → SpotFits (literal_at k)
unfolding literal_at
literal_fits k = one_of SpotFits _ k _ (more n_ull (more nu_ll (more nul_l (more f_alse (more fa_lse (more fal_se (more fals_e (more t_rue none)))))))) tr_ue

pub inner_fits : (k from bits high : ℕ) → InnerFits (inner_at k from bits high)
unfolding inner_at
inner_fits k from bits high =
    one_of InnerFits _ k _
    (more tt (more tt (more (omega arith) (more (omega arith) (more (omega arith) (more (omega arith)
    (more tt (more tt (more tt (more tt (more tt (more tt (more tt (more tt (more (omega arith) none)))))))))))))))
    (omega arith)

pub fits_at : (place : ℕ) (h : Held) → Fits place (state_at place h)
unfolding state_at spot_at told_at
fits_at place h =
    if_less (Fits place) h.spot 54 (λ k. (refl, spots)) (λ k. answers)
  where
    code : ℕ
    code = h.spot

    spots : SpotFits (spot_at code h.from h.bits h.high)
    spots =
        if_less SpotFits code 5 (λ k. one_of SpotFits _ code _ (more tt (more tt (more tt (more tt none)))) tt)
        (λ k. if_less SpotFits code 14 (λ m. literal_fits (code - 5))
        (λ m. if_less SpotFits code 22 (λ o. tt)
        (λ o. if_less SpotFits code 38 (λ p. inner_fits (code - 22) h.from h.bits h.high) (λ p. inner_fits (code - 38) h.from h.bits h.high))))

    answers : Tells (told_at code h.from)
    answers =
        if_equal Tells code 100 (λ k. tt)
        (λ k. if_equal Tells code 101 (λ m. tt)
        (λ m. if_equal Tells code 103 (λ o. tt) (λ o. if_equal Tells code 105 (λ p. tt) (λ p. if_equal Tells code 106 (λ q. tt) (λ q. tt)))))

-- ---- the words of a state mean it

pub inner_round : (s : Inner) → InnerFits s → inner_at (inner_code s) (inner_from s) (inner_bits s) (inner_high s) ≡ s
unfolding inner_at inner_code four_code tails_code inner_from inner_bits inner_high
inner_round Plain h = refl
inner_round (Escape from) h = refl
inner_round (Four from zero v) h = refl
inner_round (Four from (suc zero) v) h = refl
inner_round (Four from (suc (suc zero)) v) h = refl
inner_round (Four from (suc (suc (suc zero))) v) h = refl
inner_round (Four from (suc (suc (suc (suc left)))) v) h = absurd (omega arith)
inner_round (Pair from high) h = refl
inner_round (PairU from high) h = refl
inner_round (Low1 from high) h = refl
inner_round (Low2 from high) h = refl
inner_round (Low3 from high v) h = refl
inner_round (Low4 from high v) h = refl
inner_round (Second3 from c) h = refl
inner_round (Second4 from c) h = refl
inner_round (Tails from zero c) h = refl
inner_round (Tails from (suc zero) c) h = refl
inner_round (Tails from (suc (suc left)) c) h = absurd (omega arith)

pub code_small : (s : Inner) → InnerFits s → inner_code s < 16
unfolding inner_code four_code tails_code
code_small Plain h = omega arith
code_small (Escape from) h = omega arith
code_small (Four from left v) h =
    if_equal (λ k. k < 16) left 3 (λ a. omega arith) (λ a. if_equal (λ k. k < 16) left 2 (λ b. omega arith) (λ b. if_equal (λ k. k < 16) left 1 (λ c. omega arith) (λ c. omega arith)))
code_small (Pair from high) h = omega arith
code_small (PairU from high) h = omega arith
code_small (Low1 from high) h = omega arith
code_small (Low2 from high) h = omega arith
code_small (Low3 from high v) h = omega arith
code_small (Low4 from high v) h = omega arith
code_small (Second3 from c) h = omega arith
code_small (Second4 from c) h = omega arith
code_small (Tails from left c) h = if_equal (λ k. k < 16) left 0 (λ a. omega arith) (λ a. omega arith)

-- a string's code, by that of its inner place
pub string_at : (k from bits high : ℕ) → k < 16 → spot_at (22 + k) from bits high ≡ string (inner_at k from bits high)
unfolding spot_at
string_at k from bits high h =
    let d : 22 + k - 22 ≡ k = omega arith in
    rw (le-ltb (22 + k) 5 (omega arith), le-ltb (22 + k) 14 (omega arith), le-ltb (22 + k) 22 (omega arith), lt-ltb (22 + k) 38 (omega arith), d)

pub key_at_lem : (k from bits high : ℕ) → spot_at (38 + k) from bits high ≡ key (inner_at k from bits high)
unfolding spot_at
key_at_lem k from bits high =
    let d : 38 + k - 38 ≡ k = omega arith in
    rw (le-ltb (38 + k) 5 (omega arith), le-ltb (38 + k) 14 (omega arith), le-ltb (38 + k) 22 (omega arith), le-ltb (38 + k) 38 (omega arith), d)

word_round : (i n : ℕ) (os : List Bracket) {c : ℕ} {bs : List ℕ} → Literal c bs → state_of (held_of (going i n os (word c bs))) ≡ going i n os (word c bs)
unfolding state_at held_of spot_at literal_at literal_code
word_round i n os n_ull = rw (opened_round os)
word_round i n os nu_ll = rw (opened_round os)
word_round i n os nul_l = rw (opened_round os)
word_round i n os f_alse = rw (opened_round os)
word_round i n os fa_lse = rw (opened_round os)
word_round i n os fal_se = rw (opened_round os)
word_round i n os fals_e = rw (opened_round os)
word_round i n os t_rue = rw (opened_round os)
word_round i n os tr_ue = rw (opened_round os)

figure_round : (i n : ℕ) (os : List Bracket) (f : Figure) → state_of (held_of (going i n os (number f))) ≡ going i n os (number f)
unfolding state_at held_of spot_at figure_at figure_code
figure_round i n os Minus = rw (opened_round os)
figure_round i n os Nought = rw (opened_round os)
figure_round i n os Whole = rw (opened_round os)
figure_round i n os Point = rw (opened_round os)
figure_round i n os Fraction = rw (opened_round os)
figure_round i n os Exponent = rw (opened_round os)
figure_round i n os Sign = rw (opened_round os)
figure_round i n os Digits = rw (opened_round os)

string_round : (i n : ℕ) (os : List Bracket) (s : Inner) → InnerFits s → state_of (held_of (going i n os (string s))) ≡ going i n os (string s)
unfolding state_at held_of
string_round i n os s h =
    let k = code_small s h in
    rw (lt-ltb (22 + inner_code s) 54 (omega arith), string_at (inner_code s) (inner_from s) (inner_bits s) (inner_high s) k, inner_round s h, opened_round os)

key_round : (i n : ℕ) (os : List Bracket) (s : Inner) → InnerFits s → state_of (held_of (going i n os (key s))) ≡ going i n os (key s)
unfolding state_at held_of
key_round i n os s h =
    let k = code_small s h in
    rw (lt-ltb (38 + inner_code s) 54 (omega arith), key_at_lem (inner_code s) (inner_from s) (inner_bits s) (inner_high s), inner_round s h, opened_round os)

pub round : (i : ℕ) (s : State) → Fits i s → state_of (held_of s) ≡ s
unfolding state_at held_of spot_at told_at paper refused
round p (going i n os value) h = rw (opened_round os)
round p (going i n os first) h = rw (opened_round os)
round p (going i n os name) h = rw (opened_round os)
round p (going i n os colon) h = rw (opened_round os)
round p (going i n os after) h = rw (opened_round os)
round p (going i n os (word c bs)) h = word_round i n os h.1
round p (going i n os (number f)) h = figure_round i n os f
round p (going i n os (string s)) h = string_round i n os s h.1
round p (going i n os (key s)) h = key_round i n os s h.1
round p (over (Ok n)) h = refl
round p (over (Err TooLong)) h = refl
round p (over (Err (Grammar q))) h = refl
round p (over (Err (Character q))) h = refl
round p (over (Err (Repeated q))) h = absurd h
round p (over (Err (Deep q))) h = refl
round p (over (Err (Many q))) h = refl
round p (over (Err (Small n))) h = absurd h

-- ---- nine words

pub words_round : (h : Held) → held_in (words_of h) ≡ h
words_round h = let e : h.opened % 4294967296 + 4294967296 * (h.opened / 4294967296) ≡ h.opened = omega arith in rw e

-- ---- at the end there is an answer

literal_awaits : {c : ℕ} {bs : List ℕ} → Literal c bs → c < 256
literal_awaits n_ull = omega arith
literal_awaits nu_ll = omega arith
literal_awaits nul_l = omega arith
literal_awaits f_alse = omega arith
literal_awaits fa_lse = omega arith
literal_awaits fal_se = omega arith
literal_awaits fals_e = omega arith
literal_awaits t_rue = omega arith
literal_awaits tr_ue = omega arith

awaits : (spot : Spot) → SpotFits spot → Awaits spot
awaits value h = tt
awaits first h = tt
awaits name h = tt
awaits colon h = tt
awaits after h = tt
awaits (word c bs) h = literal_awaits h
awaits (number f) h = tt
awaits (string s) h = tt
awaits (key s) h = tt

pub finish_over : (L : Limits) (i : ℕ) (s : State) → Fits i s → Over (finish L s)
unfolding feed
finish_over L i (over a) h = told
finish_over L i (going j n os spot) h = over_ended (spot_end L j n os spot (awaits spot h.1))
