-- `json_reader::chars::digit` meets its contract: in each arm the range that holds picks the case of `digit_of`. Assumes nothing.
use borrow.Author.Rules.{rules}
use Rattle.text.specs.Chars.{digit_of}
use Rattle.laws.proofs.Picks.{picks}
use Rattle.json_reader.proofs.chars.digit.Goals as goal

pub overflow_cast-result : goal.overflow_cast-result
unfolding digit_of
overflow_cast-result c = search rules

pub overflow_sub-result-in-65-to-70 : goal.overflow_sub-result-in-65-to-70
unfolding digit_of
overflow_sub-result-in-65-to-70 c = search rules

pub overflow_cast-result-in-65-to-70 : goal.overflow_cast-result-in-65-to-70
unfolding digit_of
overflow_cast-result-in-65-to-70 c = search rules

pub overflow_sub-result-in-97-to-102 : goal.overflow_sub-result-in-97-to-102
unfolding digit_of
overflow_sub-result-in-97-to-102 c = search rules

pub overflow_cast-result-in-97-to-102 : goal.overflow_cast-result-in-97-to-102
unfolding digit_of
overflow_cast-result-in-97-to-102 c = search rules

pub returns-in-48-to-57 : goal.returns-in-48-to-57
unfolding digit_of
returns-in-48-to-57 c = search picks

pub returns-in-65-to-70 : goal.returns-in-65-to-70
unfolding digit_of
returns-in-65-to-70 c = search picks

pub returns-in-97-to-102 : goal.returns-in-97-to-102
unfolding digit_of
returns-in-97-to-102 c = search picks

pub returns-in_default : goal.returns-in_default
unfolding digit_of
returns-in_default c = search picks

pub returns-in_default-2 : goal.returns-in_default-2
unfolding digit_of
returns-in_default-2 c = search picks

pub returns-in_default-3 : goal.returns-in_default-3
unfolding digit_of
returns-in_default-3 c = search picks

pub returns-in_default-4 : goal.returns-in_default-4
unfolding digit_of
returns-in_default-4 c = search picks
