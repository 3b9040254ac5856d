-- A rule between members as the code has it: by the number of its shape, and its words. Assumes nothing: these are definitions.
use Rattle.std.specs.Prelude.{ℕ, List, [], ◌∷◌, Bool, false, not, cond, ◌&&◌, ◌||◌, length, get_or, drop, eqb}
use Rattle.std.proofs.Math.Option.{Option}
use Rattle.laws.specs.Tests.{all_marks}
use Rattle.text.specs.Doc.{Name, Doc, Members, is_there}
use Rattle.contact.specs.Schema.{ObjectType}
use Rattle.contact.specs.Rules.{present, is_true, is_this_string, marks, badly_separated}

-- there is a member of that name, of the kind that the catalog asks; the empty word is none
unfoldable pub is_counted : ObjectType → Members → Name → Bool
is_counted o ms n = cond (eqb (length n) 0) false (is_there (present o n ms))

-- there is one of one of some names
unfoldable pub any_counted : ObjectType → Members → List Name → Bool
any_counted o ms [] = false
any_counted o ms (n ∷ ns) = is_counted o ms n || any_counted o ms ns

-- the member of word j of a rule
abbrev pub present_word : ObjectType → Members → List Name → ℕ → Option Doc
present_word o ms words j = present o (get_or words j []) ms

-- where the first word is there, what a shape asks then isn't so: one of the others; the second a String with the third as its content; the second true;
-- in the list of the first an entry that isn't a separator
unfoldable pub then_broken : ObjectType → Members → (shape : ℕ) → List Name → Bool
then_broken o ms shape words =
    cond (eqb shape 1) (not (any_counted o ms (drop 1 words)))
    (cond (eqb shape 2) (not (is_this_string (get_or words 2 []) (present_word o ms words 1)))
    (cond (eqb shape 3) (not (is_true (present_word o ms words 1))) (all_marks (marks (present_word o ms words 0)))))

-- the list of the first word is badly separated, as the second is true or not
abbrev pub separators_broken : ObjectType → Members → List Name → Bool
separators_broken o ms words = badly_separated (marks (present_word o ms words 0)) (is_true (present_word o ms words 1))

-- a rule by the number of its shape and its words
unfoldable pub by_shape : ObjectType → Members → (shape : ℕ) → List Name → Bool
by_shape o ms shape words =
    cond (eqb shape 0) (not (any_counted o ms words))
    (cond (eqb shape 4) (separators_broken o ms words) (is_counted o ms (get_or words 0 []) && then_broken o ms shape words))
