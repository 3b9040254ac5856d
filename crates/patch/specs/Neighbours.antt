-- 24 by neighbours: of entries in the order of their pointers, the smallest key that clashes with the next one. Assumes nothing: these are definitions.
use Rattle.std.specs.declared.cmp.Ordering.{Ordering}
use Rattle.std.specs.Prelude.{List, [], ◌∷◌}
use Rattle.std.proofs.Math.Option.{Option, none}
use Rattle.text.specs.Doc.{Name, Members, empty, member}
use Rattle.contact.specs.Pointer.{pointer_of, clash}
use Rattle.contact.specs.Faults.{smaller_key, key_if}
use Rattle.pointers.specs.Pointers.{pointer_order}

-- the keys of a PatchObject, in their order
abbrev pub keys_of : Members → List Name
keys_of empty = []
keys_of (member key label d ms) = key ∷ keys_of ms

-- the order of two keys by their pointers
abbrev pub key_order : (key other : Name) → Ordering
key_order key other = pointer_order (pointer_of key) (pointer_of other)

-- the smallest, in byte order, of the keys that clash with the next one
abbrev pub least_leading : Members → Option Name
least_leading empty = none
least_leading (member key label d empty) = none
least_leading (member key label d (member other label₂ e ms)) =
    smaller_key (key_if (clash (pointer_of key) (pointer_of other)) key) (least_leading (member other label₂ e ms))
