-- `card::catalog::rule_word` meets its contract: the word's number is the rule's. Assumes nothing.
use mathlib.Core.Path.{◌∙◌}
use native.Mathlib.Omega.{arith}
use lib.ListN.{get_or}
use Prim.Native.Nat.{◌+◌, ◌*◌}
use mathlib.Core.List.{[]}
use Rattle.card.specs.Catalog.{WordBy, rules_from, rule_width, rule_at, rule_words}
use Rattle.card.proofs.Known.Columns.{lent_length}
use Rattle.card.proofs.catalog.rule_word.Goals as goal

-- what the number at hand says
told : (c : goal.After-shared_slice_known-3-1) → let a = c.args in WordBy (get_or a.numbers.now (rules_from + a.i * rule_width + 1 + a.j) 0) (get_or (rule_words (rule_at a.i)) a.j [])
told c = c.requires.0.numbers_are.word c.args.i c.requires.1 c.args.j c.requires.2

pub overflow_cast-size : goal.overflow_cast-size
overflow_cast-size c = omega (arith, (told c).fits)

pub sized_word-requires : goal.sized_word-requires
sized_word-requires c = omega (arith, (told c).fits, lent_length c.requires.0)

-- what the number at hand says
told_2 : (c : goal.After-sized_word) → let a = c.args in WordBy (get_or a.numbers.now (rules_from + a.i * rule_width + 1 + a.j) 0) (get_or (rule_words (rule_at a.i)) a.j [])
told_2 c = c.requires.0.numbers_are.word c.args.i c.requires.1 c.args.j c.requires.2

pub returns : goal.returns
returns c = c.sized_word.ensures ∙ rw c.requires.0.words_are (told_2 c).is
