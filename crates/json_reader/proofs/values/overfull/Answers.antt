-- `json_reader::values::overfull` meets its contract: one law of `value_at` for each return. Assumes nothing.
use mathlib.Core.Path.{◌∙◌}
use Rattle.text.specs.Limits.{base, comparing}
use Rattle.json_reader.specs.Readers.{container_of}
use Rattle.json_reader.proofs.Ways.{value_none, value_scalar, value_container, scalar_many, container_deep, container_many}
use Rattle.json_reader.proofs.values.overfull.Goals as goal

pub returns-then-kind-eq0 : goal.returns-then-kind-eq0
returns-then-kind-eq0 c =
    λ compare ns ne n h.
    let a = c.args in
    value_none (comparing compare base) a.text.now ns ne a.at n a.depth _ c.kind_at-kind.ensures c.if-kind-eq0.true

pub returns-then-kind-lt-ARRAY : goal.returns-then-kind-lt-ARRAY
returns-then-kind-lt-ARRAY c =
    λ compare ns ne n h.
    let a = c.args in
    let kind_at = c.kind_at-kind in
    value_scalar (comparing compare base) a.text.now ns ne a.at n a.depth kind_at.result kind_at.ensures c.if-kind-eq0.false c.if-kind-lt-ARRAY.true
    ∙ scalar_many (comparing compare base) a.text.now kind_at.result ns ne a.at n h

pub returns-then-depth-eq0 : goal.returns-then-depth-eq0
returns-then-depth-eq0 c =
    λ compare ns ne n h.
    let a = c.args in
    let kind_at = c.kind_at-kind in
    value_container (comparing compare base) a.text.now ns ne a.at n a.depth kind_at.result kind_at.ensures c.if-kind-lt-ARRAY.false
    ∙ container_deep (comparing compare base) a.text.now ns ne a.at n (container_of kind_at.result) a.depth c.if-depth-eq0.true

pub returns : goal.returns
returns c =
    λ compare ns ne n h.
    let a = c.args in
    let kind_at = c.kind_at-kind in
    value_container (comparing compare base) a.text.now ns ne a.at n a.depth kind_at.result kind_at.ensures c.if-kind-lt-ARRAY.false
    ∙ container_many (comparing compare base) a.text.now ns ne a.at n (container_of kind_at.result) a.depth c.if-depth-eq0.false h
