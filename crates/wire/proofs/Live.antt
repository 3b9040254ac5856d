-- A state without an answer leaves it open (`undecided`): two ways to go on with bytes, after which the end answers differently. So no refusal is certain there.
-- Assumes nothing.
use Rattle.std.specs.Prelude.{Option, Some, None, Result, Ok, Err}
use Rattle.text.specs.declared.Fault.{Fault}
use Rattle.text.specs.declared.Fault.TheVariants.{Malformed, Forbidden}
use mathlib.Core.Path.{◌≡◌, refl, sym, ap, subst, ◌∙◌}
use mathlib.Core.List.{List, [], ◌∷◌}
use mathlib.Core.Bool.{Bool, true, false, cond}
use Prim.Native.Nat.{ℕ, zero, suc, ◌+◌, ◌*◌, ◌%◌, ◌≤◌, ◌<◌}
use native.Mathlib.Nat.{add-zero}
use native.Mathlib.Decide.{dec_le}
use native.Mathlib.Omega.{arith}
use lib.ListN.{length}
use lib.Dec.{ltb}
use borrow.Author.Tests.{lt-ltb, le-ltb, eq-eqb, ne_eqb}
use Rattle.laws.specs.Each.{none, more}
use Rattle.text.specs.Text.{Bytes}
use Rattle.text.specs.Limits.{Limits}
use Rattle.text.specs.Chars.{digit_of, tail_of, letter_of}
use Rattle.text.specs.Tokens.{kind_by}
use Rattle.text.specs.Tree.{Bracket, square, curly}
use Rattle.text.specs.declared.Refusal.{Refusal}
use Rattle.text.specs.declared.Refusal.TheVariants.{Grammar, Character}
use Rattle.wire.specs.declared.Figure.{Figure}
use Rattle.wire.specs.declared.Figure.TheVariants.{Minus, Nought, Whole, Point, Fraction, Exponent, Sign, Digits}
use Rattle.wire.specs.Figures.{exp_turn, frac_turn, turn_of}
use Rattle.wire.specs.Inners.{sound, checked, unit_move, hex_move, tail_move, move3, move4, paired, move_of}
use Rattle.wire.specs.declared.Inner.{Inner}
use Rattle.wire.specs.declared.Inner.TheVariants.{Plain, Escape, Four, Pair, PairU, Low1, Low2, Low3, Low4, Second3, Second4, Tails}
use Rattle.wire.specs.Machine.{Spot, value, first, name, colon, after, word, number, string, key, State, going, over, refuse, begins, quotes, items, firsts, closes, after_of, word_on, on_turn, on_move, feed, finish, feeds}
use Rattle.wire.proofs.Sound.{InnerOk, MoveOk, sound_beyond}
use Rattle.wire.proofs.Sane.{SpotOk, move_ok}
use Rattle.wire.proofs.Whole.{Ended, accepts, short, lone, ok_awaits, spot_end}

-- two ways to go on, after which the end answers differently
pub record Undecided (L : Limits) (s : State) : Type 0 where
  pub one : List ℕ
  pub other : List ℕ
  pub one_bytes : Bytes one
  pub other_bytes : Bytes other
  pub differ : finish L (feeds L s one) ≡ finish L (feeds L s other) → ⊥

-- ---- answers that differ

no_rows : (n : ℕ) (r : Refusal) → over (Ok n) ≡ over (Err r) → ⊥
no_rows n r e = let z : ◌≡◌ {A = ℕ} 0 1 = cc in omega arith

no_char : (p q : ℕ) → over (Err (Character p)) ≡ over (Err (Grammar q)) → ⊥
no_char p q e = let z : ◌≡◌ {A = ℕ} 0 1 = cc in omega arith

same_place : (p q : ℕ) → over (Err (Grammar p)) ≡ over (Err (Grammar q)) → p ≡ q
same_place p q e = cc

-- the end one byte later is not 2 here
ended_later : (i : ℕ) {s : State} → Ended (i + 1) s → s ≡ refuse (Grammar i) → ⊥
ended_later i (accepts {n}) e = no_rows n (Grammar i) e
ended_later i short e = omega (arith, same_place (i + 1) i e)
ended_later i (lone {p}) e = no_char p i e

module _ (L : Limits) (i n : ℕ) (os : List Bracket) where
  later : (m : ℕ) (ps : List Bracket) (spot : Spot) → SpotOk spot → finish L (going (i + 1) m ps spot) ≡ refuse (Grammar i) → ⊥
  later m ps spot h = ended_later i (spot_end L (i + 1) m ps spot (ok_awaits spot h))

  -- the end would be 2 here, and a byte leads on
  on_by : (s : State) (b : ℕ) → b < 256 → finish L s ≡ refuse (Grammar i) → (m : ℕ) (ps : List Bracket) (spot : Spot) → SpotOk spot
      → feed L s b ≡ going (i + 1) m ps spot → Undecided L s
  unfolding feeds
  on_by s b h e m ps spot k f =
      record {
        one = [];
        other = b ∷ [];
        one_bytes = none;
        other_bytes = more h none;
        differ = λ d. later m ps spot k (ap (finish L) (sym f) ∙ sym d ∙ e);
      }

  -- the end would accept, and a byte is refused
  off_by : (s : State) (b : ℕ) → b < 256 → finish L s ≡ over (Ok n) → feed L s b ≡ refuse (Grammar i) → Undecided L s
  unfolding feeds feed
  off_by s b h e f =
      record {
        one = [];
        other = b ∷ [];
        one_bytes = none;
        other_bytes = more h none;
        differ = λ d. no_rows n (Grammar i) (sym e ∙ d ∙ ap (finish L) f);
      }

-- after a value, or where a number may end
after_open : (L : Limits) (i n : ℕ) (os : List Bracket) (s : State)
    → feed L s 256 ≡ after_of i n os 256 → feed L s 1 ≡ after_of i n os 1 → feed L s 32 ≡ after_of i n os 32 → Undecided L s
unfolding after_of closes
after_open L i n [] s e f g = off_by L i n [] s 1 (omega arith) e f
after_open L i n (square ∷ os) s e f g = on_by L i n (square ∷ os) s 32 (omega arith) e n (square ∷ os) after tt g
after_open L i n (curly ∷ os) s e f g = on_by L i n (curly ∷ os) s 32 (omega arith) e n (curly ∷ os) after tt g

-- ---- numbers

number_open : (L : Limits) (i n : ℕ) (os : List Bracket) (f : Figure) → Undecided L (going i n os (number f))
unfolding feed on_turn turn_of frac_turn exp_turn
number_open L i n os Minus = on_by L i n os (going i n os (number Minus)) 48 (omega arith) refl n os (number Nought) tt refl
number_open L i n os Nought = after_open L i n os (going i n os (number Nought)) refl refl refl
number_open L i n os Whole = after_open L i n os (going i n os (number Whole)) refl refl refl
number_open L i n os Point = on_by L i n os (going i n os (number Point)) 48 (omega arith) refl n os (number Fraction) tt refl
number_open L i n os Fraction = after_open L i n os (going i n os (number Fraction)) refl refl refl
number_open L i n os Exponent = on_by L i n os (going i n os (number Exponent)) 48 (omega arith) refl n os (number Digits) tt refl
number_open L i n os Sign = on_by L i n os (going i n os (number Sign)) 48 (omega arith) refl n os (number Digits) tt refl
number_open L i n os Digits = after_open L i n os (going i n os (number Digits)) refl refl refl

-- ---- literals

word_open : (L : Limits) (i n : ℕ) (os : List Bracket) (c : ℕ) (bs : List ℕ) → SpotOk (word c bs) → Undecided L (going i n os (word c bs))
unfolding feed word_on
word_open L i n os c [] h =
    on_by L i n os (going i n os (word c [])) c h.0 (rw (ne_eqb 256 c (λ e. omega (arith, h.0)))) n os after tt (rw (eq-eqb c c refl))
word_open L i n os c (d ∷ bs) (h, more l k) =
    on_by L i n os (going i n os (word c (d ∷ bs))) c h (rw (ne_eqb 256 c (λ e. omega (arith, h)))) n os (word d bs) (l, k) (rw (eq-eqb c c refl))

-- ---- strings

-- bytes that complete a character
pub data Completes : Inner → List ℕ → Type 0 where
  done : Completes Plain []
  next : {s r : Inner} {q : List ℕ} (b : ℕ) → b < 256 → ((i : ℕ) → move_of i s b ≡ Ok (Some r)) → Completes r q → Completes s (b ∷ q)

complete_bytes : {s : Inner} {q : List ℕ} → Completes s q → Bytes q
complete_bytes done = none
complete_bytes (next b h m c) = more h (complete_bytes c)

-- some bytes complete it
abbrev Can : Inner → Type 0
Can s = (q : List ℕ) × Completes s q

by : {s r : Inner} (b : ℕ) → b < 256 → ((i : ℕ) → move_of i s b ≡ Ok (Some r)) → Can r → Can s
by b h m c = (b ∷ c.0, next b h m c.1)

can_low4 : (from high v : ℕ) → v < 64 → Can (Low4 from high v)
unfolding move_of digit_of checked
can_low4 from high v h =
    by 48 (omega arith) (λ i. rw (sound_beyond (paired high (v % 64 * 16 + 0)) (omega arith) (omega arith) (omega arith))) ([], done)

can_low3 : (from high v : ℕ) → v < 4 → Can (Low3 from high v)
unfolding move_of digit_of
can_low3 from high v h = by 48 (omega arith) (λ i. refl) (can_low4 from high (v % 64 * 16 + 0) (omega arith))

can_low2 : (from high : ℕ) → Can (Low2 from high)
unfolding move_of digit_of
can_low2 from high = by 67 (omega arith) (λ i. refl) (can_low3 from high 0 (omega arith))

can_low1 : (from high : ℕ) → Can (Low1 from high)
unfolding move_of digit_of
can_low1 from high = by 68 (omega arith) (λ i. refl) (can_low2 from high)

can_pair_u : (from high : ℕ) → Can (PairU from high)
unfolding move_of
can_pair_u from high = by 117 (omega arith) (λ i. refl) (can_low1 from high)

can_pair : (from high : ℕ) → Can (Pair from high)
unfolding move_of
can_pair from high = by 92 (omega arith) (λ i. refl) (can_pair_u from high)

can_tail : (from c : ℕ) → sound (c % 65536 * 64) ≡ true → Can (Tails from 0 c)
unfolding move_of tail_of tail_move checked
can_tail from c h = by 128 (omega arith) (λ i. rw (add-zero (c % 65536 * 64), h)) ([], done)

can_tails : (from c : ℕ) → 16 ≤ c → c < 272 → Can (Tails from 1 c)
unfolding move_of tail_of tail_move
can_tails from c h k = by 128 (omega arith) (λ i. refl) (can_tail from (c % 65536 * 64 + 0) (sound_beyond ((c % 65536 * 64 + 0) % 65536 * 64) (omega arith) (omega arith) (omega arith)))

-- the second byte of three: A0 behind E0, and 80 behind the others
can_3 : (from c : ℕ) → c < 16 → Can (Second3 from c)
unfolding move_of tail_of move3 sound
can_3 from zero h = by 160 (omega arith) (λ i. refl) (can_tail from 32 refl)
can_3 from (suc d) h = by 128 (omega arith) leads (can_tail from c (subst MoveOk (leads 0) (move_ok 0 (Second3 from (suc d)) 128 h)))
  where
    c : ℕ
    c = suc d % 65536 * 64 + 0

    leads : (i : ℕ) → move_of i (Second3 from (suc d)) 128 ≡ Ok (Some (Tails from 0 c))
    leads i = elim (dec_le 896 c) [
      | yes l ↦ rw (le-ltb c 32 (omega arith), le-ltb c 864 (omega arith), le-ltb c 896 l)
      | no l ↦ rw (le-ltb c 32 (omega arith), lt-ltb c 864 (omega arith))
    ]

-- of four: 90 behind F0, and 80 behind the others
can_4 : (from c : ℕ) → c < 5 → Can (Second4 from c)
unfolding move_of tail_of move4
can_4 from zero h = by 144 (omega arith) (λ i. refl) (can_tails from 16 (omega arith) (omega arith))
can_4 from (suc d) h =
    let c : ℕ = suc d % 65536 * 64 + 0 in
    by 128 (omega arith) (λ i. rw (le-ltb c 16 (omega arith), lt-ltb c 272 (omega arith))) (can_tails from c (omega arith) (omega arith))

-- a byte that leads on, or makes 3 certain
abbrev Leads : Result (Option Inner) (Fault ℕ) → Type 0
Leads (Ok (Some r)) = InnerOk r
Leads (Ok None) = Prim.Unit {0}
Leads (Err (Malformed p)) = ⊥
Leads (Err (Forbidden p)) = Prim.Unit {0}

-- the end is 2 and a byte leads on; or the end is 3 and some bytes complete the character
data Ways (s : Inner) : Type 0 where
  leads_on : (b : ℕ) → b < 256 → ((i : ℕ) → move_of i s 256 ≡ Err (Malformed i)) → ((i : ℕ) → Leads (move_of i s b)) → Ways s
  waits : (from : ℕ) → ((i : ℕ) → move_of i s 256 ≡ Err (Forbidden from)) → Can s → Ways s

leads_cond : (x : Bool) (a b : Result (Option Inner) (Fault ℕ)) → Leads a → Leads b → Leads (cond x a b)
leads_cond true a b p q = p
leads_cond false a b p q = q

hex_leads : (from left v : ℕ) → Leads (hex_move from left v)
unfolding hex_move unit_move checked
hex_leads from (suc left) v = tt
hex_leads from zero v =
    let entire : Leads (checked from v) = leads_cond (sound v) (Ok (Some Plain)) (Err (Forbidden from)) tt tt in
    leads_cond (ltb v 0xD800) (checked from v) (cond (ltb v 0xDC00) (Ok (Some (Pair from v))) (checked from v)) entire
    (leads_cond (ltb v 0xDC00) (Ok (Some (Pair from v))) (checked from v) tt entire)

ways : (s : Inner) → InnerOk s → Ways s
unfolding move_of digit_of tail_of letter_of
ways Plain h = leads_on 97 (omega arith) (λ i. refl) (λ i. tt)
ways (Escape from) h = leads_on 110 (omega arith) (λ i. refl) (λ i. tt)
ways (Four from left v) h = leads_on 48 (omega arith) (λ i. refl) (λ i. hex_leads from left (v % 4096 * 16 + 0))
ways (Pair from high) h = waits from (λ i. refl) (can_pair from high)
ways (PairU from high) h = waits from (λ i. refl) (can_pair_u from high)
ways (Low1 from high) h = waits from (λ i. refl) (can_low1 from high)
ways (Low2 from high) h = waits from (λ i. refl) (can_low2 from high)
ways (Low3 from high v) h = waits from (λ i. refl) (can_low3 from high v h)
ways (Low4 from high v) h = waits from (λ i. refl) (can_low4 from high v h)
ways (Second3 from c) h = waits from (λ i. refl) (can_3 from c h)
ways (Second4 from c) h = waits from (λ i. refl) (can_4 from c h)
ways (Tails from zero c) h = waits from (λ i. refl) (can_tail from c h)
ways (Tails from (suc zero) c) h = waits from (λ i. refl) (can_tails from c h.0 h.1)
ways (Tails from (suc (suc left)) c) h = absurd h

-- ---- a string that is a value or a name: `spot` is its place in the grammar, and `behind` what its closing quote leads to

module _ (L : Limits) (n : ℕ) (os : List Bracket) (spot : Inner → Spot) (behind : Spot) (ok : (s : Inner) → InnerOk s → SpotOk (spot s)) (fine : SpotOk behind)
    (fed : (i : ℕ) (s : Inner) (b : ℕ) → feed L (going i n os (spot s)) b ≡ on_move i n os spot behind (move_of i s b)) where
  completed : (i : ℕ) {s : Inner} {q : List ℕ} → Completes s q → feeds L (going i n os (spot s)) q ≡ going (i + length q) n os (spot Plain)
  unfolding feeds on_move
  completed i done = rw (add-zero i)
  completed i (next {s = s} {r = r} {q = q} b h m c) =
      let e : i + 1 + length q ≡ i + suc (length q) = omega arith in
      rw (fed i s b, m i) (completed (i + 1) c ∙ rw e)

  led : (i : ℕ) (m : Result (Option Inner) (Fault ℕ)) → Leads m → finish L (on_move i n os spot behind m) ≡ refuse (Grammar i) → ⊥
  unfolding on_move feed
  led i (Ok (Some r)) h = later L i n os n os (spot r) (ok r h)
  led i (Ok None) h = later L i n os n os behind fine
  led i (Err (Malformed p)) h = absurd h
  led i (Err (Forbidden p)) h = no_char p i

  ended_plain : (j : ℕ) → finish L (going j n os (spot Plain)) ≡ refuse (Grammar j)
  unfolding on_move move_of
  ended_plain j = fed j Plain 256

  string_open : (i : ℕ) (s : Inner) → Ways s → Undecided L (going i n os (spot s))
  unfolding feeds on_move
  string_open i s (leads_on b h e m) =
      record {
        one = [];
        other = b ∷ [];
        one_bytes = none;
        other_bytes = more h none;
        differ = λ d. led i (move_of i s b) (m i) (ap (finish L) (sym (fed i s b)) ∙ sym d ∙ fed i s 256 ∙ ap (on_move i n os spot behind) (e i));
      }
  string_open i s (waits from e c) =
      record {
        one = [];
        other = c.0;
        one_bytes = none;
        other_bytes = complete_bytes c.1;
        differ = λ d. no_char from (i + length c.0) (sym (fed i s 256 ∙ ap (on_move i n os spot behind) (e i)) ∙ d ∙ ap (finish L) (completed i c.1) ∙ ended_plain (i + length c.0));
      }

-- ---- every state without an answer

pub undecided : (L : Limits) (i n : ℕ) (os : List Bracket) (spot : Spot) → SpotOk spot → Undecided L (going i n os spot)
unfolding feed begins quotes kind_by on_move firsts items
undecided L i n os value h = on_by L i n os (going i n os value) 32 (omega arith) refl n os value tt refl
undecided L i n os first h = on_by L i n os (going i n os first) 32 (omega arith) (first_cut os) n os first tt refl
  where
    first_cut : (ps : List Bracket) → firsts L i n ps 256 ≡ refuse (Grammar i)
    first_cut [] = refl
    first_cut (square ∷ ps) = refl
    first_cut (curly ∷ ps) = refl
undecided L i n os name h = on_by L i n os (going i n os name) 32 (omega arith) refl n os name tt refl
undecided L i n os colon h = on_by L i n os (going i n os colon) 32 (omega arith) refl n os colon tt refl
undecided L i n os after h = after_open L i n os (going i n os after) refl refl refl
undecided L i n os (word c bs) h = word_open L i n os c bs h
undecided L i n os (number f) h = number_open L i n os f
undecided L i n os (string s) h = string_open L n os (λ x. string x) after (λ x o. o) tt (λ j x b. refl) i s (ways s h)
undecided L i n os (key s) h = string_open L n os (λ x. key x) colon (λ x o. o) tt (λ j x b. refl) i s (ways s h)
