-- `json_reader::names::goes_on` meets its contract: the library's order of two iterators is that of what they have left (`ordered`). Assumes nothing.
use mathlib.Core.Path.{refl, ap, ◌∙◌}
use Rattle.std.specs.Ordering.{nat_cmp}
use Rattle.std.proofs.lemmas.List.{take_rest}
use Rattle.std.proofs.lemmas.Iterator.{YieldsList-from_slice}
use Rattle.std.proofs.lemmas.Iterator.Consumers.{YieldsList-from_first, YieldsList-from_copied}
use Rattle.std.proofs.lemmas.Iterator.Search.{cmp_from_yields_List}
use Rattle.text.specs.Utf8.{conts}
use Rattle.json_reader.specs.Cursors.{rest}
use Rattle.json_reader.proofs.Ordered.{ordered, is_same_equal}
use mathlib.Core.Path.{◌≡◌}
use lib.ListN.{drop}
use Rattle.text.specs.Strings.{decode_from}
use Rattle.laws.specs.Order.{is_same}
use Rattle.json_reader.proofs.names.goes_on.Goals as goal

pub returns : goal.returns
unfolding conts
returns c =
    let a = c.args in
    let o = cmp_from_yields_List (λ x y. y ≡ x) _ nat_cmp _ c.cmp.ensures.ran
    (YieldsList-from_first (λ x. x) (λ s. rest s.name.now s.at) (decode_from a.a.now a.from) (rw c.cursor_at.ensures refl))
    (λ it e. YieldsList-from_copied (YieldsList-from_slice (drop a.from a.lit.now) (rw (e, c.copied.ensures.source, c.iter.ensures.rest) (take_rest a.lit.now a.from)))) (λ x y. refl) in
    c.is_eq.ensures ∙ is_same_equal _ ∙ ap is_same (o ∙ ordered _ _)
