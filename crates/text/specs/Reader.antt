-- What stands at a place of a text: values and the place after them, or the first refusal of 2 to 6 (RFC 8259, sections 2 to 5; docs/RULES.md, 3).
-- A text is read from left to right and the first refusal ends it, so the smallest place wins; at one bracket 5 is asked before 6.
-- A value's definition goes by the containers that may still be opened, and a run of items by a number of turns, of which there are always enough.
-- Assumes nothing: these are definitions.
use Rattle.std.specs.Prelude.{Result, Ok, Err}
use Rattle.text.specs.declared.Fault.{Fault}
use Rattle.std.specs.Prelude.{ℕ, zero, suc, ◌+◌, ◌-◌, List, Bool, true, false, cond, length, leb, eqb}
use Rattle.text.specs.Limits.{Limits}
use Rattle.laws.specs.Order.{same}
use Rattle.text.specs.Text.{byte_at}
use Rattle.text.specs.Sheet.{refusal_of}
use Rattle.text.specs.Strings.{string_end, name_of}
use Rattle.text.specs.Tokens.{skip, kind_by, token_at}
use Rattle.text.specs.Tree.{Bracket, square, curly, Forest, none, leaf, node, size, join}
use Rattle.text.specs.declared.Refusal.{Refusal}
use Rattle.text.specs.declared.Refusal.TheVariants.{Grammar, Repeated, Deep, Many}

-- values and the place after them, or the refusal
pub data Read : Type 0 where
  good : Forest → ℕ → Read
  bad : Refusal → Read

-- A reader of one value is asked with the places of its name, its own place, and the number of values that begin before it.
abbrev pub Reader : Type 0
Reader = (ns ne at n : ℕ) → Read

-- A reader of one item of a container is asked with the items before it (for their names), a place and the number of values so far.
abbrev pub ItemReader : Type 0
ItemReader = Forest → (at n : ℕ) → Read

-- ---- one value

-- a value of a kind that holds no others
unfoldable pub scalar_with : (kind ns ne at : ℕ) → Result ℕ (Fault ℕ) → Read
scalar_with kind ns ne at (Ok to) = good (leaf kind ns ne at to none) to
scalar_with kind ns ne at (Err fault) = bad (refusal_of fault)

-- a value of such a kind at a place; 6: it is one value too many
unfoldable pub scalar_at : Limits → List ℕ → (kind : ℕ) → Reader
scalar_at L t kind ns ne at n =
    let all = scalar_with kind ns ne at (token_at t kind at) in
    cond (leb L.values n) (bad (Many at)) all

-- a container around what is inside it
unfoldable pub close_of : Bracket → (ns ne at : ℕ) → Read → Read
close_of b ns ne at (good inside to) = good (node b ns ne at to inside none) to
close_of b ns ne at (bad r) = bad r

-- a container whose bracket is at a place, given what stands inside from the next place on; 6: it is one value too many
unfoldable pub container : Limits → Bracket → (inside : ℕ → ℕ → Read) → Reader
container L b inside ns ne at n =
    let all = close_of b ns ne at (inside (at + 1) (n + 1)) in
    cond (leb L.values n) (bad (Many at)) all

-- 5: a container where none may be opened
unfoldable pub deep : Reader
deep ns ne at n = bad (Deep at)

-- a value, by the kind that its first byte begins; 2 where it begins none
unfoldable pub value_with : Limits → List ℕ → (array object : Reader) → Reader
value_with L t array object ns ne at n =
    let kind = kind_by (byte_at t at) in
    let a = array ns ne at n in
    let o = object ns ne at n in
    let s = scalar_at L t kind ns ne at n in
    cond (eqb kind 0) (bad (Grammar at)) (cond (eqb kind 6) a (cond (eqb kind 7) o s))

-- ---- items with commas between them

-- after an item: the closing byte z, or a comma and the items that follow
unfoldable pub after_item : List ℕ → (z : ℕ) → (prior : Forest) → (more : Forest → ℕ → Read) → Read → Read
after_item t z prior more (bad r) = bad r
after_item t z prior more (good f to) =
    let x = skip t to in
    let m = more f (skip t (x + 1)) in
    cond (eqb (byte_at t x) z) (good (join prior f) (x + 1)) (cond (eqb (byte_at t x) 44) m (bad (Grammar x)))

-- the items from a place on, after the items that are done, with so many turns left
unfoldable pub items_from : List ℕ → ItemReader → (z turns at n : ℕ) → (prior : Forest) → Read
items_from t item z zero at n prior = bad (Grammar at)
items_from t item z (suc turns) at n prior =
    after_item t z prior (λ f to. items_from t item z turns to (n + size f) (join prior f)) (item prior at n)

-- what stands inside a container, from after its bracket to after its closing byte z
unfoldable pub inside_of : List ℕ → ItemReader → (z at n : ℕ) → Read
inside_of t item z at n =
    let x = skip t at in
    let items = items_from t item z (suc (length t)) x n none in
    cond (eqb (byte_at t x) z) (good none (x + 1)) items

-- ---- members (8259: member = string name-separator value)

-- is there a value of that decoded name among these, not looking inside them?
unfoldable pub named : List ℕ → List ℕ → Forest → Bool
named t name none = false
named t name (leaf kind ns ne from to rest) = let more = named t name rest in cond (same (name_of t ns ne) name) true more
named t name (node b ns ne from to inside rest) = let more = named t name rest in cond (same (name_of t ns ne) name) true more

-- a colon after the name that ends before `end`, and the value
unfoldable pub colon_at : List ℕ → (value : Reader) → (at end n : ℕ) → Read
colon_at t value at end n =
    let x = skip t end in
    let v = value (at + 1) (end - 1) (skip t (x + 1)) n in
    cond (eqb (byte_at t x) 58) v (bad (Grammar x))

-- a member whose name's quote is at a place, given where the name ends.
-- 4: the name is in the object already, compared decoded; it counts as soon as it is closed, whatever follows it
unfoldable pub member_with : Limits → List ℕ → (value : Reader) → (prior : Forest) → (at n : ℕ) → Result ℕ (Fault ℕ) → Read
member_with L t value prior at n (Err fault) = bad (refusal_of fault)
member_with L t value prior at n (Ok end) =
    let v = colon_at t value at end n in
    let checked = cond (named t (name_of t (at + 1) (end - 1)) prior) (bad (Repeated at)) v in
    cond L.unique checked v

-- a member at a place; 2 where no name begins
unfoldable pub member_of : Limits → List ℕ → (value : Reader) → ItemReader
member_of L t value prior at n =
    let m = member_with L t value prior at n (string_end t (at + 1)) in
    cond (eqb (byte_at t at) 34) m (bad (Grammar at))

-- ---- the value at a place, where so many containers may be opened

-- what stands inside an array, from after its bracket on, given the reader of its elements, which have no names
abbrev pub inside_array : List ℕ → (value : Reader) → (at n : ℕ) → Read
inside_array t value = inside_of t (λ prior. value 0 0) 93

-- what stands inside an object, from after its brace on, given the reader of its members' values
abbrev pub inside_object : Limits → List ℕ → (value : Reader) → (at n : ℕ) → Read
inside_object L t value = inside_of t (member_of L t value) 125

-- the value at a place; inside a container that it opens, one container fewer may be opened
unfoldable pub value_at : Limits → List ℕ → (depth : ℕ) → Reader
value_at L t zero = value_with L t deep deep
value_at L t (suc depth) =
    let value = value_at L t depth in
    value_with L t (container L square (inside_array t value)) (container L curly (inside_object L t value))

-- Its parts by themselves, for the contracts of the functions that call each other; a value is the part of its kind: `value_parts` (proofs/Laws.antt).

-- the elements from after the bracket of an array on, where so many containers may be opened in it
unfoldable pub elements_at : Limits → List ℕ → (depth at n : ℕ) → Read
elements_at L t depth = inside_array t (value_at L t depth)

-- the members from after the brace of an object on, where so many containers may be opened in it
unfoldable pub members_at : Limits → List ℕ → (depth at n : ℕ) → Read
members_at L t depth = inside_object L t (value_at L t depth)

-- the array at a place, where so many containers may be opened, itself included
unfoldable pub array_at : Limits → List ℕ → (depth : ℕ) → Reader
array_at L t zero = deep
array_at L t (suc depth) = container L square (elements_at L t depth)

-- the object at a place, likewise
unfoldable pub object_at : Limits → List ℕ → (depth : ℕ) → Reader
object_at L t zero = deep
object_at L t (suc depth) = container L curly (members_at L t depth)
