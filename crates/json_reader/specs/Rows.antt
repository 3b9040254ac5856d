-- What a row that is stored asks; the words of a row are those of the definitions. Assumes nothing: these are definitions.
use Rattle.std.specs.Prelude.{ℕ, ◌<◌}
pub use Rattle.text.specs.Words.{word_of, kind_in, name_start_in, name_end_in, start_in, end_in, below_in, parent_in, sibling_in}

-- a number fits a word of 32 bits
abbrev pub Word : ℕ → Type 0
Word x = x < 4294967296

-- a row's number and its own words fit
pub record Row (row kind ns ne from to below : ℕ) : Type 0 where
  pub row_fits : Word row
  pub kind_fits : Word kind
  pub ns_fits : Word ns
  pub ne_fits : Word ne
  pub from_fits : Word from
  pub to_fits : Word to
  pub below_fits : Word below
