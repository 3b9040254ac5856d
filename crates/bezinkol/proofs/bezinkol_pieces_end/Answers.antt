-- `bezinkol::bezinkol_pieces_end` meets its contract: what the callees ensure; the words of a state mean it, so its answer is read off them (`kept_end`).
-- Assumes nothing.
use mathlib.Core.Path.{◌≡◌, ap, ◌∙◌}
use Rattle.text.specs.Limits.{base}
use Rattle.wire.specs.declared.Held.{Held}
use Rattle.wire.specs.Held.{words_of, state_of, held_of, held_in}
use Rattle.wire.specs.Machine.{finish}
use Rattle.wire.specs.Service.{answer_of, wired}
use Rattle.wire.proofs.Promise.{kept_end}
use Rattle.bezinkol.specs.Answer.{answer_words}
use Rattle.bezinkol.proofs.bezinkol_pieces_end.Goals as goal

-- the state at the end
behind : (c : goal.After-put_held)
    → let a = c.args in
    c.end-h.result ≡ held_of (finish base (state_of (held_in a.state.now)))
behind c =
    c.end-h.ensures ∙ ap (λ (x : Held). held_of (finish base (state_of x))) c.held_in.ensures

pub returns : goal.returns
unfolding wired
returns c =
    let a = c.args in
    record {
      answered = c.put_answer.ensures ∙ ap answer_words (c.said.ensures ∙ ap answer_of (ap state_of (behind c) ∙ kept_end base a.state.now));
      kept = c.put_held.ensures ∙ ap words_of (behind c);
    }
