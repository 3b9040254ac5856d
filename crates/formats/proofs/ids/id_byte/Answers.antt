-- `formats::ids::id_byte` meets its contract: the tests of the code are those of the definition. Assumes nothing.
use Rattle.laws.proofs.Picks.{picks}
use Rattle.contact.specs.Values.{id_byte}
use Rattle.formats.proofs.Laws.Counts.{ascii_digit}
use Rattle.formats.proofs.ids.id_byte.Goals as goal

pub returns-then-b-eq45 : goal.returns-then-b-eq45
unfolding id_byte
returns-then-b-eq45 c = search picks

pub returns-then-b-eq95 : goal.returns-then-b-eq95
unfolding id_byte
returns-then-b-eq95 c = search picks

pub returns-then-is_ascii_digit : goal.returns-then-is_ascii_digit
unfolding id_byte
returns-then-is_ascii_digit c = rw (ascii_digit c.args.b c.is_ascii_digit.ensures.value, c.if-is_ascii_digit.true) (search picks)

pub returns : goal.returns
unfolding id_byte
returns c = rw (ascii_digit c.args.b c.is_ascii_digit.ensures.value, c.if-is_ascii_digit.false, ← c.is_letter.ensures) (search picks)
