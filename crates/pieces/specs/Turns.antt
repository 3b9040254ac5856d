-- What the functions for single bytes answer, by the numbers of spots (`spot_at`, crate wire). Assumes nothing: these are definitions.
use Rattle.std.specs.Prelude.{ℕ, ◌+◌, ◌-◌, Bool, true, false, cond, List, [], ◌∷◌, get_or, ltb, eqb}
use Rattle.text.specs.Limits.{base}
use Rattle.text.specs.Tree.{Bracket}
use Rattle.text.specs.declared.Refusal.TheVariants.{Grammar}
use Rattle.wire.specs.declared.Turn.{Turn}
use Rattle.wire.specs.declared.Turn.TheVariants.{Goes, Ends, Stuck}
use Rattle.wire.specs.declared.Inner.{Inner}
use Rattle.wire.specs.Machine.{Spot, value, first, name, colon, after, word, number, string, key, State, going, refuse, begins, quotes, firsts, closes, finish}
use Rattle.wire.specs.Held.{figure_at}

-- in a number: the spot that a byte leads to, 4 where the number has ended before it, one that isn't in a number where it is stuck
abbrev pub turn_at : (code : ℕ) → Turn
turn_at code = cond (eqb code 4) Ends (cond (ltb code 14) Stuck (cond (ltb code 22) (Goes (figure_at (code - 14))) Stuck))

-- in a literal: the byte that must come, and the spot behind it
unfoldable pub awaited_at : (k : ℕ) → ℕ
awaited_at k = get_or (117 ∷ 108 ∷ 108 ∷ 97 ∷ 108 ∷ 115 ∷ 101 ∷ 114 ∷ []) k 117

unfoldable pub behind_at : (k : ℕ) → ℕ
behind_at k = get_or (6 ∷ 7 ∷ 4 ∷ 9 ∷ 10 ∷ 11 ∷ 4 ∷ 13 ∷ []) k 11

-- between tokens, on a byte that is no white space: a value, a name, a colon must come, or it is the byte after a value
unfoldable pub act_at : (code at n : ℕ) → List Bracket → (byte : ℕ) → State
act_at code at n os b =
    cond (eqb code 0) (begins base at n os b)
    (cond (eqb code 2) (quotes at n os b)
    (cond (eqb code 3) (cond (eqb b 58) (going (at + 1) n os value) (refuse (Grammar at)))
    (cond (eqb code 4) (closes at n os b) (refuse (Grammar at)))))

-- what is done there: right after a bracket also the closing byte may come
unfoldable pub act_of : Spot → (at n : ℕ) → List Bracket → (byte : ℕ) → State
act_of value at n os b = act_at 0 at n os b
act_of first at n os b = firsts base at n os b
act_of name at n os b = act_at 2 at n os b
act_of colon at n os b = act_at 3 at n os b
act_of after at n os b = act_at 4 at n os b
act_of (word c bs) at n os b = refuse (Grammar at)
act_of (number f) at n os b = refuse (Grammar at)
act_of (string s) at n os b = refuse (Grammar at)
act_of (key s) at n os b = refuse (Grammar at)

-- in a string: where the numbers of its places begin, and the spot behind its closing quote
abbrev pub first_of : (code : ℕ) → ℕ
first_of code = cond (ltb code 38) 22 38

abbrev pub behind_of : (start : ℕ) → ℕ
behind_of start = cond (ltb start 38) 4 3

-- what was fed was all that comes, or not
abbrev pub ended : (last : Bool) → State → State
ended false s = s
ended true s = finish base s
