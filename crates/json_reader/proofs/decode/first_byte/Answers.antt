-- `json_reader::decode::first_byte` meets its contract: the tests of the code point pick the case of `utf8`; the cursor has the continuation bytes
-- left. Assumes nothing.
use Rattle.text.specs.Utf8.{utf8, conts}
use Rattle.json_reader.specs.Cursors.{first_of}
use Rattle.laws.proofs.Picks.{picks}
use Rattle.json_reader.proofs.decode.first_byte.Goals as goal

pub returns-then-code-lt128 : goal.returns-then-code-lt128
unfolding utf8 conts first_of
returns-then-code-lt128 c = record { by_index = (λ t. search picks); is = search picks }

pub returns-then-code-lt2048 : goal.returns-then-code-lt2048
unfolding utf8 conts first_of
returns-then-code-lt2048 c = record { by_index = (λ t. search picks); is = search picks }

pub returns-then-code-lt65536 : goal.returns-then-code-lt65536
unfolding utf8 conts first_of
returns-then-code-lt65536 c = record { by_index = (λ t. search picks); is = search picks }

pub returns : goal.returns
unfolding utf8 conts first_of
returns c = record { by_index = (λ t. search picks); is = search picks }
