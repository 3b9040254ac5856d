-- Reading's answer is determined: an answer with the right numbers on paper is the right one, and two outcomes that the contract of reading
-- allows for one text and one length of table are equal.
--     paper-unique            two answers with the same numbers are one
--     answer-is               the numbers of what reading a text gives determine the answer
--     same_outcome            two answers and tables that meet reading's contract (`Reads`, specs/Whole.antt) are equal
-- Assumes nothing.
use Rattle.std.specs.Prelude.{Result, Ok, Err}
use Rattle.text.specs.declared.Refusal.{Refusal}
use Prim.Native.Nat.{ℕ}
use mathlib.Core.Path.{◌≡◌, refl, sym, ap, ◌∙◌}
use mathlib.Core.List.{List}
use mathlib.Core.Bool.{cond}
use lib.Dec.{eqb}
use Rattle.text.specs.Limits.{Limits}
use Rattle.text.specs.Tree.{size}
use Rattle.text.specs.declared.Paper.{Paper}
use Rattle.text.specs.Sheet.{refused, paper}
use Rattle.text.specs.Reader.{Read, good, bad}
use Rattle.text.specs.Whole.{sheet_of, Reads}
use Rattle.text.specs.declared.Refusal.TheVariants.{TooLong, Grammar, Character, Repeated, Deep, Many, Small}

-- the answer of some numbers
back : Paper → Result ℕ Refusal
back p =
    let n = p.number in
    let x = p.second in
    cond (eqb n 0) (Ok x)
    (cond (eqb n 1) (Err TooLong)
    (cond (eqb n 2) (Err (Grammar x))
    (cond (eqb n 3) (Err (Character x))
    (cond (eqb n 4) (Err (Repeated x))
    (cond (eqb n 5) (Err (Deep x)) (cond (eqb n 6) (Err (Many x)) (Err (Small x))))))))

back_paper : (r : Result ℕ Refusal) → back (paper r) ≡ r
unfolding back paper refused
back_paper (Ok n) = refl
back_paper (Err TooLong) = refl
back_paper (Err (Grammar p)) = refl
back_paper (Err (Character p)) = refl
back_paper (Err (Repeated p)) = refl
back_paper (Err (Deep p)) = refl
back_paper (Err (Many p)) = refl
back_paper (Err (Small n)) = refl

pub paper_unique : (r s : Result ℕ Refusal) → paper r ≡ paper s → r ≡ s
paper_unique r s e = sym (back_paper r) ∙ ap back e ∙ back_paper s

-- the answer that stands for what a reading gives
abbrev pub answer_of : Read → Result ℕ Refusal
answer_of (good f to) = Ok (size f)
answer_of (bad r) = Err r

sheet_answer : (R : Read) → sheet_of R ≡ paper (answer_of R)
unfolding sheet_of paper
sheet_answer (good f to) = refl
sheet_answer (bad r) = refl

pub answer_is : (r : Result ℕ Refusal) (R : Read) → paper r ≡ sheet_of R → r ≡ answer_of R
answer_is r R e = paper_unique r (answer_of R) (e ∙ sheet_answer R)

pub same_outcome : (L : Limits) (words : ℕ) (t : List ℕ) (r s : Result ℕ Refusal) (table other : List ℕ) → Reads L words t r table → Reads L words t s other
    → (r ≡ s) × (table ≡ other)
same_outcome L words t r s table other o p = (paper_unique r s (o.answered ∙ sym p.answered), o.left ∙ sym p.left)
