-- `card::catalog::type_name` meets its contract: the word is the type's name. Assumes nothing.
use Prim.Native.Nat.{◌+◌, ◌*◌, ◌≤◌}
use mathlib.Core.Path.{◌≡◌, ap, ◌∙◌}
use native.Mathlib.Omega.{arith}
use lib.ListN.{length}
use Rattle.contact.specs.Schema.{types}
use Rattle.card.specs.Catalog.{type_count, type_words_from, name_width}
use Rattle.card.proofs.Known.OwnParts.{place_within}
use Rattle.card.proofs.Known.Columns.{words_length, type_named, type_within}
use Rattle.card.proofs.catalog.type_name.Goals as goal

near : (c : goal.After-size-2-1) → c.name_place-place.result ≤ type_count
near c = rw c.name_place-place.ensures (place_within c.args.o)

pub overflow_cast-size : goal.overflow_cast-size
unfolding types
overflow_cast-size c = omega (arith, type_within c.name_place-place.result (near c))

pub sized_word-requires : goal.sized_word-requires
unfolding types
sized_word-requires c =
    let long : length c.args.words.now ≡ (type_words_from + type_count) * name_width = ap length c.requires ∙ words_length in
    rw long (type_within c.name_place-place.result (near c))

pub returns : goal.returns
unfolding types
returns c = c.sized_word.ensures ∙ rw (c.name_place-place.ensures, c.requires) (type_named c.args.o)

near_2 : (c : goal.After-size-1) → c.name_place-place.result ≤ type_count
near_2 c = rw c.name_place-place.ensures (place_within c.args.o)

pub bounds-place : goal.bounds-place
bounds-place c = omega (arith, near_2 c)

pub overflow_add-place : goal.overflow_add-place
overflow_add-place c = omega (arith, near c)
