-- The reader that keeps no text (02, Req 10): a state of a few words, what one byte does to it, and what the end does. Assumes nothing: these are definitions.
use Rattle.std.specs.Prelude.{Option, Some, None, Result, Ok, Err}
use Rattle.text.specs.declared.Fault.{Fault}
use Rattle.text.specs.declared.Fault.TheVariants.{Malformed, Forbidden}
use Rattle.std.specs.Prelude.{ℕ, ◌+◌, List, [], ◌∷◌, cond, length, leb, eqb}
use Rattle.text.specs.Limits.{Limits}
use Rattle.text.specs.Text.{bytes}
use Rattle.text.specs.Tokens.{is_space, kind_by}
use Rattle.text.specs.Grammar.{closing}
use Rattle.text.specs.Tree.{Bracket, square, curly}
use Rattle.text.specs.declared.Refusal.{Refusal}
use Rattle.text.specs.declared.Refusal.TheVariants.{TooLong, Grammar, Character, Deep, Many}
use Rattle.wire.specs.declared.Figure.{Figure}
use Rattle.wire.specs.declared.Turn.{Turn}
use Rattle.wire.specs.declared.Turn.TheVariants.{Goes, Ends, Stuck}
use Rattle.wire.specs.Figures.{turn_of, figure_of}
use Rattle.wire.specs.Inners.{move_of}
use Rattle.wire.specs.declared.Inner.{Inner}
use Rattle.wire.specs.declared.Inner.TheVariants.{Plain}

-- where in the grammar
pub data Spot : Type 0 where
  -- a value must come; after a bracket: an item or the closing byte; after a comma of an object: a name; after a name: a colon; after a value
  value first name colon after : Spot
  -- in a literal: the byte that must come, and those behind it
  word : ℕ → List ℕ → Spot
  number : Figure → Spot
  -- in a string that is a value, in one that is a name
  string key : Inner → Spot

-- so many bytes taken, so many values begun, the brackets that are open, the innermost first (a bit each), and where in the grammar; or the answer
pub data State : Type 0 where
  going : (at n : ℕ) (opened : List Bracket) (spot : Spot) → State
  over : Result ℕ Refusal → State

-- before the first byte
abbrev pub start : State
start = going 0 0 [] value

abbrev pub refuse : Refusal → State
refuse r = over (Err r)

-- ---- a value begins

-- 6: it is one value too many
unfoldable pub counted : Limits → (at n : ℕ) → State → State
counted L at n s = cond (leb L.values n) (refuse (Many at)) s

-- a bracket: 5 is asked before 6
unfoldable pub opens : Limits → Bracket → (at n : ℕ) → List Bracket → State
opens L c at n os = cond (leb L.depth (length os)) (refuse (Deep at)) (counted L at n (going (at + 1) (n + 1) (c ∷ os) first))

-- where a first byte of a kind that holds no others leads: 1 null, 2 false, 3 true, 4 number, 5 string
unfoldable pub spot_of : (kind byte : ℕ) → Spot
spot_of kind b =
    cond (eqb kind 1) (word 117 (bytes "ll"))
    (cond (eqb kind 2) (word 97 (bytes "lse"))
    (cond (eqb kind 3) (word 114 (bytes "ue"))
    (cond (eqb kind 4) (number (figure_of b)) (string Plain))))

-- by the kind that the byte begins; 2 where it begins none
unfoldable pub begins : Limits → (at n : ℕ) → List Bracket → (byte : ℕ) → State
begins L at n os b =
    let kind = kind_by b in
    cond (eqb kind 0) (refuse (Grammar at))
    (cond (eqb kind 6) (opens L square at n os)
    (cond (eqb kind 7) (opens L curly at n os) (counted L at n (going (at + 1) (n + 1) os (spot_of kind b)))))

-- ---- between tokens, on a byte that is no white space

-- a name begins
unfoldable pub quotes : (at n : ℕ) → List Bracket → (byte : ℕ) → State
quotes at n os b = cond (eqb b 34) (going (at + 1) n os (key Plain)) (refuse (Grammar at))

-- an item of such a container begins
unfoldable pub items : Limits → Bracket → (at n : ℕ) → List Bracket → (byte : ℕ) → State
items L square at n os b = begins L at n os b
items L curly at n os b = quotes at n os b

-- right after a bracket
unfoldable pub firsts : Limits → (at n : ℕ) → List Bracket → (byte : ℕ) → State
firsts L at n [] b = refuse (Grammar at)
firsts L at n (c ∷ os) b = cond (eqb b (closing c)) (going (at + 1) n os after) (items L c at n (c ∷ os) b)

-- what a comma leads to
abbrev pub behind_comma : Bracket → Spot
behind_comma square = value
behind_comma curly = name

-- after a value; with nothing open the text may end
unfoldable pub closes : (at n : ℕ) → List Bracket → (byte : ℕ) → State
closes at n [] b = cond (eqb b 256) (over (Ok n)) (refuse (Grammar at))
closes at n (c ∷ os) b =
    cond (eqb b (closing c)) (going (at + 1) n os after)
    (cond (eqb b 44) (going (at + 1) n (c ∷ os) (behind_comma c)) (refuse (Grammar at)))

-- ---- one byte

-- white space changes nothing, another byte does
abbrev pub spaced : (byte : ℕ) → State → State → State
spaced b s other = cond (is_space b) s other

-- after a value
unfoldable pub after_of : (at n : ℕ) → List Bracket → (byte : ℕ) → State
after_of at n os b = spaced b (going (at + 1) n os after) (closes at n os b)

-- in a literal, after its next byte
unfoldable pub word_on : (at n : ℕ) → List Bracket → List ℕ → State
word_on at n os [] = going at n os after
word_on at n os (c ∷ bs) = going at n os (word c bs)

-- in a number: a byte that can't continue it is taken as the one after a value
unfoldable pub on_turn : (at n : ℕ) → List Bracket → (byte : ℕ) → Turn → State
on_turn at n os b (Goes f) = going (at + 1) n os (number f)
on_turn at n os b Ends = after_of at n os b
on_turn at n os b Stuck = refuse (Grammar at)

-- in a string, and what its closing quote leads to
unfoldable pub on_move : (at n : ℕ) → List Bracket → (Inner → Spot) → Spot → Result (Option Inner) (Fault ℕ) → State
on_move at n os inside behind (Ok (Some s)) = going (at + 1) n os (inside s)
on_move at n os inside behind (Ok None) = going (at + 1) n os behind
on_move at n os inside behind (Err (Malformed p)) = refuse (Grammar p)
on_move at n os inside behind (Err (Forbidden p)) = refuse (Character p)

-- one byte, or 256 at the end of the text; after an answer nothing changes
unfoldable pub feed : Limits → State → (byte : ℕ) → State
feed L (over a) b = over a
feed L (going at n os value) b = spaced b (going (at + 1) n os value) (begins L at n os b)
feed L (going at n os first) b = spaced b (going (at + 1) n os first) (firsts L at n os b)
feed L (going at n os name) b = spaced b (going (at + 1) n os name) (quotes at n os b)
feed L (going at n os colon) b = spaced b (going (at + 1) n os colon) (cond (eqb b 58) (going (at + 1) n os value) (refuse (Grammar at)))
feed L (going at n os after) b = after_of at n os b
feed L (going at n os (word c bs)) b = cond (eqb b c) (word_on (at + 1) n os bs) (refuse (Grammar at))
feed L (going at n os (number f)) b = on_turn at n os b (turn_of f b)
feed L (going at n os (string s)) b = on_move at n os (λ x. string x) after (move_of at s b)
feed L (going at n os (key s)) b = on_move at n os (λ x. key x) colon (move_of at s b)

-- the end of the text is one more byte that can't continue
abbrev pub finish : Limits → State → State
finish L s = feed L s 256

-- some bytes
unfoldable pub feeds : Limits → State → List ℕ → State
feeds L s [] = s
feeds L s (b ∷ bs) = feeds L (feed L s b) bs

-- ---- with the byte limit: what the service does

-- one byte more: a byte beyond the limit is 1, unless there was an answer before it
unfoldable pub taken : Limits → State → (byte : ℕ) → State
taken L (over a) b = over a
taken L (going at n os spot) b = cond (leb L.bytes at) (refuse TooLong) (feed L (going at n os spot) b)

-- a byte beyond the limit, whichever
abbrev pub cut_off : State → State
cut_off (over a) = over a
cut_off (going at n os spot) = refuse TooLong

-- a piece
unfoldable pub piece : Limits → State → List ℕ → State
piece L s [] = s
piece L s (b ∷ bs) = piece L (taken L s b) bs
