-- The states that bytes lead to (`Sane`): so many bytes taken, no acceptance before the end, and inside a character what is needed for one to come of it.
-- A byte keeps that (`feed_sane`), and at the end there is an answer (`ended`). Assumes nothing.
use Rattle.std.specs.Prelude.{Option, Some, None, Result, Ok, Err}
use Rattle.text.specs.declared.Fault.{Fault}
use Rattle.text.specs.declared.Fault.TheVariants.{Malformed, Forbidden}
use mathlib.Core.Path.{◌≡◌, refl}
use mathlib.Core.List.{List, [], ◌∷◌}
use mathlib.Core.Bool.{cond}
use Prim.Native.Nat.{ℕ, zero, suc, ◌+◌, ◌*◌, ◌%◌, ◌≤◌, ◌<◌}
use native.Mathlib.Omega.{arith}
use lib.ListN.{length}
use lib.Dec.{ltb}
use Rattle.laws.proofs.Branches.{if_less, if_equal, if_most, if_true}
use Rattle.laws.specs.Each.{none, more}
use Rattle.text.specs.Text.{Bytes}
use Rattle.text.specs.Limits.{Limits}
use Rattle.text.specs.Chars.{digit_of, tail_of, letter_of}
use Rattle.text.specs.Tokens.{is_space, kind_by}
use Rattle.text.specs.Grammar.{closing}
use Rattle.text.specs.Tree.{Bracket, square, curly}
use Rattle.wire.specs.declared.Turn.{Turn}
use Rattle.wire.specs.declared.Turn.TheVariants.{Goes, Ends, Stuck}
use Rattle.wire.specs.Figures.{turn_of}
use Rattle.wire.specs.Inners.{sound, checked, unit_move, hex_move, tail_move, move4, lead_move, paired, move_of}
use Rattle.wire.specs.declared.Inner.{Inner}
use Rattle.wire.specs.declared.Inner.TheVariants.{Plain, Escape, Four, Pair, PairU, Low1, Low2, Low3, Low4, Second3, Second4, Tails}
use Rattle.wire.specs.Machine.{Spot, value, first, name, colon, after, word, number, string, key, State, going, over, counted, opens, spot_of, begins, quotes, items, firsts, behind_comma, closes, after_of, word_on, on_turn, on_move, feed}
use Rattle.wire.proofs.Strings.{digit_most}
use Rattle.wire.proofs.Sound.{InnerOk, MoveOk, move_cond, sound_low, sound_beyond}
use Rattle.wire.proofs.ThreeBytes.{three_ok}

-- ---- inside a string

checked_ok : (from c : ℕ) → MoveOk (checked from c)
unfolding checked
checked_ok from c = move_cond (sound c) (Ok (Some Plain)) (Err (Forbidden from)) tt tt

unit_ok : (from u : ℕ) → MoveOk (unit_move from u)
unfolding unit_move
unit_ok from u =
    move_cond (ltb u 0xD800) (checked from u) (cond (ltb u 0xDC00) (Ok (Some (Pair from u))) (checked from u)) (checked_ok from u)
    (move_cond (ltb u 0xDC00) (Ok (Some (Pair from u))) (checked from u) tt (checked_ok from u))

pub hex_ok : (from left v : ℕ) → MoveOk (hex_move from left v)
unfolding hex_move
hex_ok from zero v = unit_ok from v
hex_ok from (suc left) v = tt

tail_ok : (from left c x : ℕ) → x ≤ 63 → InnerOk (Tails from left c) → MoveOk (tail_move from left (c % 65536 * 64 + x))
unfolding tail_move
tail_ok from zero c x h k = checked_ok from (c % 65536 * 64 + x)
tail_ok from (suc zero) c x h k =
    let e : (c % 65536 * 64 + x) % 65536 ≡ c * 64 + x = omega (arith, k.1) in
    rw e (sound_beyond ((c * 64 + x) * 64) (omega (arith, k.0)) (omega (arith, k.1)) (omega arith))
tail_ok from (suc (suc left)) c x h k = absurd k

four_ok : (from c : ℕ) → MoveOk (move4 from c)
unfolding move4
four_ok from c = if_less MoveOk c 16 (λ l. tt) (λ l. if_less MoveOk c 272 (λ m. (l, m)) (λ m. tt))

lead_ok : (i b : ℕ) → MoveOk (lead_move i b)
unfolding lead_move
lead_ok i b =
    if_less MoveOk b 194 (λ l. tt)
    (λ l. if_less MoveOk b 224 (λ m. sound_low (b % 32 % 65536 * 64) (omega arith))
    (λ m. if_less MoveOk b 240 (λ o. omega arith)
    (λ o. if_less MoveOk b 245 (λ p. omega arith) (λ p. tt))))

-- a byte keeps that
pub move_ok : (i : ℕ) (s : Inner) (b : ℕ) → InnerOk s → MoveOk (move_of i s b)
unfolding move_of
move_ok i Plain b h =
    if_equal MoveOk b 34 (λ l. tt)
    (λ l. if_equal MoveOk b 92 (λ m. tt)
    (λ m. if_less MoveOk b 32 (λ o. tt) (λ o. if_less MoveOk b 128 (λ p. tt) (λ p. if_less MoveOk b 256 (λ q. lead_ok i b) (λ q. tt)))))
move_ok i (Escape from) b h = if_equal MoveOk b 117 (λ l. tt) (λ l. if_equal MoveOk (letter_of b) 0 (λ m. tt) (λ m. tt))
move_ok i (Four from left v) b h = if_equal MoveOk (digit_of b) 16 (λ l. tt) (λ l. hex_ok from left (v % 4096 * 16 + digit_of b))
move_ok i (Pair from high) b h = if_equal MoveOk b 92 (λ l. tt) (λ l. tt)
move_ok i (PairU from high) b h = if_equal MoveOk b 117 (λ l. tt) (λ l. tt)
move_ok i (Low1 from high) b h = if_equal MoveOk (digit_of b) 13 (λ l. tt) (λ l. tt)
move_ok i (Low2 from high) b h =
    if_less MoveOk (digit_of b) 12 (λ l. tt) (λ l. if_equal MoveOk (digit_of b) 16 (λ m. tt) (λ m. omega (arith, digit_most b)))
move_ok i (Low3 from high v) b h = if_equal MoveOk (digit_of b) 16 (λ l. tt) (λ l. omega (arith, digit_most b))
move_ok i (Low4 from high v) b h = if_equal MoveOk (digit_of b) 16 (λ l. tt) (λ l. checked_ok from (paired high (v % 64 * 16 + digit_of b)))
move_ok i (Second3 from c) b h = if_less MoveOk 63 (tail_of b) (λ l. tt) (λ l. three_ok from (c % 65536 * 64 + tail_of b) (omega arith))
move_ok i (Second4 from c) b h = if_less MoveOk 63 (tail_of b) (λ l. tt) (λ l. four_ok from (c % 65536 * 64 + tail_of b))
move_ok i (Tails from left c) b h = if_less MoveOk 63 (tail_of b) (λ l. tt) (λ l. tail_ok from left c (tail_of b) l h)

-- ---- states

abbrev pub SpotOk : Spot → Type 0
SpotOk value = Prim.Unit {0}
SpotOk first = Prim.Unit {0}
SpotOk name = Prim.Unit {0}
SpotOk colon = Prim.Unit {0}
SpotOk after = Prim.Unit {0}
SpotOk (word c bs) = (c < 256) × Bytes bs
SpotOk (number f) = Prim.Unit {0}
SpotOk (string s) = InnerOk s
SpotOk (key s) = InnerOk s

-- after i bytes
abbrev pub Sane : (i : ℕ) → State → Type 0
Sane i (going j n os spot) = (j ≡ i) × SpotOk spot
Sane i (over (Ok n)) = ⊥
Sane i (over (Err r)) = Prim.Unit {0}

module _ (L : Limits) (i n b : ℕ) where
  abbrev Next : State → Type 0
  Next = Sane (i + 1)

  spot_ok : (kind : ℕ) → SpotOk (spot_of kind b)
  unfolding spot_of
  spot_ok kind =
      if_equal SpotOk kind 1 (λ l. (omega arith, more (omega arith) (more (omega arith) none)))
      (λ l. if_equal SpotOk kind 2 (λ m. (omega arith, more (omega arith) (more (omega arith) (more (omega arith) none))))
      (λ m. if_equal SpotOk kind 3 (λ o. (omega arith, more (omega arith) (more (omega arith) none))) (λ o. if_equal SpotOk kind 4 (λ p. tt) (λ p. tt))))

  counted_sane : (s : State) → Next s → Next (counted L i n s)
  unfolding counted
  counted_sane s h = if_most Next L.values n (λ l. tt) (λ l. h)

  opens_sane : (c : Bracket) (os : List Bracket) → Next (opens L c i n os)
  unfolding opens
  opens_sane c os = if_most Next L.depth (length os) (λ l. tt) (λ l. counted_sane (going (i + 1) (n + 1) (c ∷ os) first) (refl, tt))

  begins_sane : (os : List Bracket) → Next (begins L i n os b)
  unfolding begins
  begins_sane os =
      let kind = kind_by b in
      if_equal Next kind 0 (λ l. tt)
      (λ l. if_equal Next kind 6 (λ m. opens_sane square os)
      (λ m. if_equal Next kind 7 (λ o. opens_sane curly os) (λ o. counted_sane (going (i + 1) (n + 1) os (spot_of kind b)) (refl, spot_ok kind))))

  quotes_sane : (os : List Bracket) → Next (quotes i n os b)
  unfolding quotes
  quotes_sane os = if_equal Next b 34 (λ l. (refl, tt)) (λ l. tt)

  items_sane : (c : Bracket) (os : List Bracket) → Next (items L c i n os b)
  unfolding items
  items_sane square os = begins_sane os
  items_sane curly os = quotes_sane os

  firsts_sane : (os : List Bracket) → Next (firsts L i n os b)
  unfolding firsts
  firsts_sane [] = tt
  firsts_sane (c ∷ os) = if_equal Next b (closing c) (λ l. (refl, tt)) (λ l. items_sane c (c ∷ os))

  comma_ok : (c : Bracket) → SpotOk (behind_comma c)
  comma_ok square = tt
  comma_ok curly = tt

  closes_sane : (os : List Bracket) → b < 256 → Next (closes i n os b)
  unfolding closes
  closes_sane [] h = if_equal Next b 256 (λ l. absurd (omega arith)) (λ l. tt)
  closes_sane (c ∷ os) h = if_equal Next b (closing c) (λ l. (refl, tt)) (λ l. if_equal Next b 44 (λ m. (refl, comma_ok c)) (λ m. tt))

  after_sane : (os : List Bracket) → b < 256 → Next (after_of i n os b)
  unfolding after_of
  after_sane os h = if_true Next (is_space b) (λ l. (refl, tt)) (λ l. closes_sane os h)

  word_sane : (os : List Bracket) (bs : List ℕ) → Bytes bs → Next (word_on (i + 1) n os bs)
  unfolding word_on
  word_sane os [] h = (refl, tt)
  word_sane os (c ∷ bs) (more l h) = (refl, (l, h))

  turn_sane : (os : List Bracket) → b < 256 → (x : Turn) → Next (on_turn i n os b x)
  unfolding on_turn
  turn_sane os h (Goes f) = (refl, tt)
  turn_sane os h Ends = after_sane os h
  turn_sane os h Stuck = tt

  move_sane : (os : List Bracket) (inside : Inner → Spot) (behind : Spot) → ((s : Inner) → InnerOk s → SpotOk (inside s)) → SpotOk behind
      → (m : Result (Option Inner) (Fault ℕ)) → MoveOk m → Next (on_move i n os inside behind m)
  unfolding on_move
  move_sane os inside behind ok o (Ok (Some s)) h = (refl, ok s h)
  move_sane os inside behind ok o (Ok None) h = (refl, o)
  move_sane os inside behind ok o (Err (Malformed p)) h = tt
  move_sane os inside behind ok o (Err (Forbidden p)) h = tt

  spot_sane : b < 256 → (os : List Bracket) (spot : Spot) → SpotOk spot → Next (feed L (going i n os spot) b)
  unfolding feed
  spot_sane h os value k = if_true Next (is_space b) (λ l. (refl, tt)) (λ l. begins_sane os)
  spot_sane h os first k = if_true Next (is_space b) (λ l. (refl, tt)) (λ l. firsts_sane os)
  spot_sane h os name k = if_true Next (is_space b) (λ l. (refl, tt)) (λ l. quotes_sane os)
  spot_sane h os colon k = if_true Next (is_space b) (λ l. (refl, tt)) (λ l. if_equal Next b 58 (λ m. (refl, tt)) (λ m. tt))
  spot_sane h os after k = after_sane os h
  spot_sane h os (word c bs) k = if_equal Next b c (λ l. word_sane os bs k.1) (λ l. tt)
  spot_sane h os (number f) k = turn_sane os h (turn_of f b)
  spot_sane h os (string s) k = move_sane os (λ x. string x) after (λ x o. o) tt (move_of i s b) (move_ok i s b k)
  spot_sane h os (key s) k = move_sane os (λ x. key x) colon (λ x o. o) tt (move_of i s b) (move_ok i s b k)

-- a byte keeps that
pub feed_sane : (L : Limits) (i : ℕ) (s : State) (b : ℕ) → b < 256 → Sane i s → Sane (i + 1) (feed L s b)
unfolding feed
feed_sane L i (over (Ok n)) b h k = k
feed_sane L i (over (Err r)) b h k = tt
feed_sane L i (going j n os spot) b h k = rw (← k.0) (spot_sane L j n b h os spot k.1)
