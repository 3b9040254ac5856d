-- `json_reader::tokens::is_space` meets its contract: its tests are those of `is_space`, and behind a space there is no white space. Assumes nothing.
use native.Mathlib.Omega.{arith}
use borrow.Author.Tests.{ne_eqb}
use Rattle.laws.proofs.Picks.{picks}
use Rattle.json_reader.proofs.tokens.is_space.Goals as goal

pub returns-then-b-gt-SPACE : goal.returns-then-b-gt-SPACE
returns-then-b-gt-SPACE c =
    let b = c.args.b in
    rw (ne_eqb b 32 (λ e. omega arith), ne_eqb b 9 (λ e. omega arith), ne_eqb b 10 (λ e. omega arith), ne_eqb b 13 (λ e. omega arith))

pub returns-then-b-eq-SPACE : goal.returns-then-b-eq-SPACE
returns-then-b-eq-SPACE c = search picks

pub returns-then-b-eq-TAB : goal.returns-then-b-eq-TAB
returns-then-b-eq-TAB c = search picks

pub returns-then-b-eq-LINE_FEED : goal.returns-then-b-eq-LINE_FEED
returns-then-b-eq-LINE_FEED c = search picks

pub returns : goal.returns
returns c = search picks
