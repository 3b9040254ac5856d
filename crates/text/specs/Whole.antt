-- What reading a whole text answers, and what it leaves in a lent table of so many words; at the end reading's contract, `Reads`.
-- docs/RULES.md, 2.2, 3.6 and 7. Assumes nothing: these are definitions.
use Rattle.std.specs.Prelude.{Result}
use Rattle.std.specs.Prelude.{ℕ, ◌*◌, ◌≡◌, List, [], cond, length, ltb}
use Rattle.text.specs.Limits.{Limits, row_words}
use Rattle.laws.specs.Lists.{filled}
use Rattle.text.specs.Tokens.{skip}
use Rattle.text.specs.Tree.{size, tree_rows}
use Rattle.text.specs.Reader.{Read, good, bad, value_at}
use Rattle.text.specs.declared.Paper.{Paper}
use Rattle.text.specs.Sheet.{numbers, refused, paper}
use Rattle.text.specs.declared.Refusal.{Refusal}
use Rattle.text.specs.declared.Refusal.TheVariants.{TooLong, Grammar, Small}

-- a value with nothing but white space after it (8259: JSON-text = ws value ws)
unfoldable pub end_of : List ℕ → Read → Read
end_of t (bad r) = bad r
end_of t (good f to) = let x = skip t to in cond (ltb x (length t)) (bad (Grammar x)) (good f x)

-- the tree of a text, or the refusal of 1 to 6; 1 comes first
unfoldable pub read_of : Limits → List ℕ → Read
read_of L t =
    let all = end_of t (value_at L t L.depth 0 0 (skip t 0) 0) in
    cond (ltb L.bytes (length t)) (bad TooLong) all

-- reading refuses the text by 1 to 6, so whatever table is lent, with these two numbers of the sheet
pub record Refuses (L : Limits) (t : List ℕ) (n p : ℕ) : Type 0 where
  pub refusal : Refusal
  pub answer : read_of L t ≡ bad refusal
  pub sheet : refused refusal ≡ numbers n p 0

-- 7, after all others: the table has fewer whole rows than the text has values
unfoldable pub fit_of : (words : ℕ) → Read → Read
fit_of words (bad r) = bad r
fit_of words (good f to) = cond (ltb words (row_words * size f)) (bad (Small (size f))) (good f to)

-- a text read for a table of so many words
unfoldable pub whole_of : Limits → (words : ℕ) → List ℕ → Read
whole_of L words t = fit_of words (read_of L t)

-- the answer in the paper's numbers: 0 and the row count, or the refusal's two numbers
unfoldable pub sheet_of : Read → Paper
sheet_of (good f to) = numbers 0 (size f) 0
sheet_of (bad r) = refused r

-- the whole table: the rows and zero after them; after a refusal zero
unfoldable pub table_of : (words : ℕ) → Read → List ℕ
table_of words (good f to) = filled words (tree_rows f)
table_of words (bad r) = filled words []

-- what reading's contract says of an answer and of what is left in a table of so many words
pub record Reads (L : Limits) (words : ℕ) (t : List ℕ) (answer : Result ℕ Refusal) (table : List ℕ) : Type 0 where
  pub answered : paper answer ≡ sheet_of (whole_of L words t)
  pub left : table ≡ table_of words (whole_of L words t)
