-- What a survey says of the packing of a document: `survey_said`. The walk goes through the fields as the document has them, one behind the other.
-- Assumes nothing.
use Rattle.std.specs.Prelude.{Option, Some, None}
use mathlib.Core.Path.{◌≡◌, refl, sym, ap, ap₂, ◌∙◌}
use mathlib.Core.List.{List, [], ◌++◌, append_assoc, append-nil}
use mathlib.Core.Bool.{Bool, true, false, cond}
use mathlib.Core.Option.{some}
use Prim.Native.Nat.{ℕ, ◌+◌, ◌≤◌}
use native.Mathlib.Omega.{arith}
use lib.ListN.{length, drop, length-append}
use borrow.Author.Tests.{eq-eqb, ne_eqb, le-ltb}
use Rattle.laws.proofs.Bounds.{AllBelow}
use Rattle.laws.proofs.Splits.{beyond}
use Rattle.text.specs.Text.{byte_at}
use Rattle.text.specs.Tree.{Bracket, square, curly}
use Rattle.text.specs.Doc.{Name, Doc, scalar, array, object, Members, empty, member, seek, is_there, count_of, count_all}
use Rattle.text.specs.Labels.{Labelled, Every}
use Rattle.text.specs.Writable.{Lexeme}
use Rattle.text.proofs.Labels.{EveryIn, every_parts}
use Rattle.packing.specs.Packed.{field_of, content_in, name_field, packed, packed_items}
use Rattle.packing.specs.Unpacked.{doc_in, distinctly, distinct_items}
use Rattle.packing.proofs.Sound.{doc_sound}
use Rattle.packing.proofs.Widest.{fits_whole}
use Rattle.fields.specs.Survey.{repeats_at, onward_at, values_at, survey_from, survey_of, surveyed, longest}
use Rattle.fields.proofs.Turns.{survey_end, survey_twice, survey_on}
use Rattle.fields.proofs.Heads.{tag_there, next_there, inside_there, content_there}
use Rattle.fields.proofs.Named.{repeats_some, repeats_there}

-- ---- one field

module _ (p : List ℕ) (at n tag : ℕ) (content rest : List ℕ) (e : drop at p ≡ field_of tag content ++ rest) where
  field_on : repeats_at p at ≡ false → survey_from p at n ≡ survey_from p (onward_at p at) (n + values_at p at)
  field_on r =
      let x = next_there p at tag content rest e in
      let y = inside_there p at tag content rest e in
      survey_on p at n (omega arith) (omega arith) r

  -- an object that has a name twice
  field_twice : repeats_at p at ≡ true → survey_from p at n ≡ None
  field_twice r =
      let x = next_there p at tag content rest e in
      let y = inside_there p at tag content rest e in
      survey_twice p at n (omega arith) (omega arith) r

  no_object_case : (tag ≡ 7 → ⊥) → repeats_at p at ≡ false
  unfolding repeats_at
  no_object_case m = rw (ne_eqb (byte_at p at) 7 (λ z. m (sym (tag_there p at tag content rest e) ∙ z)))

  -- an object that has none
  into_object : tag ≡ 7 → repeats_at p at ≡ false → survey_from p at n ≡ survey_from p (at + 3) (n + 1)
  unfolding onward_at values_at
  into_object m r =
      let t = tag_there p at tag content rest e in
      field_on r ∙ rw (eq-eqb (byte_at p at) 7 (t ∙ m), ne_eqb (byte_at p at) 8 (λ z. omega arith))

  into_array : tag ≡ 6 → survey_from p at n ≡ survey_from p (at + 3) (n + 1)
  unfolding onward_at values_at
  into_array m =
      let t = tag_there p at tag content rest e in
      field_on (no_object_case (λ z. omega arith))
      ∙ rw (ne_eqb (byte_at p at) 7 (λ z. omega arith), eq-eqb (byte_at p at) 6 (t ∙ m), ne_eqb (byte_at p at) 8 (λ z. omega arith))

  past_value : tag ≤ 5 → survey_from p at n ≡ survey_from p (at + 3 + length content) (n + 1)
  unfolding onward_at values_at
  past_value m =
      let t = tag_there p at tag content rest e in
      field_on (no_object_case (λ z. omega arith))
      ∙ rw (ne_eqb (byte_at p at) 7 (λ z. omega arith), ne_eqb (byte_at p at) 6 (λ z. omega arith), ne_eqb (byte_at p at) 8 (λ z. omega arith), next_there p at tag content rest e)

  past_name : tag ≡ 8 → survey_from p at n ≡ survey_from p (at + 3 + length content) n
  unfolding onward_at values_at
  past_name m =
      let t = tag_there p at tag content rest e in
      let z : n + 0 ≡ n = omega arith in
      field_on (no_object_case (λ z. omega arith))
      ∙ rw (ne_eqb (byte_at p at) 7 (λ z. omega arith), ne_eqb (byte_at p at) 6 (λ z. omega arith), eq-eqb (byte_at p at) 8 (t ∙ m), next_there p at tag content rest e, z)

lexeme_kind : {kind : ℕ} {token : List ℕ} → Lexeme kind token → kind ≤ 5
lexeme_kind Lexeme.null = omega arith
lexeme_kind Lexeme.falsity = omega arith
lexeme_kind Lexeme.truth = omega arith
lexeme_kind (Lexeme.number h) = omega arith
lexeme_kind (Lexeme.string h) = omega arith

-- before a member's value its name is passed over
name_on : (p : List ℕ) (b : Bracket) (name : Name) (at n : ℕ) (rest : List ℕ) → drop at p ≡ name_field b name ++ rest
    → survey_from p at n ≡ survey_from p (at + length (name_field b name)) n
name_on p square name at n rest e = let z : at + 0 ≡ at = omega arith in rw z
name_on p curly name at n rest e =
    let z : at + 3 + length name ≡ at + length (field_of 8 name) = omega arith in
    past_name p at n 8 name rest e refl ∙ ap (λ (to : ℕ). survey_from p to n) z

-- ---- names and what stands inside

-- no object inside these members' values has a name twice
abbrev insides : Members → Bool
insides empty = true
insides (member n label d ms) = let rest = insides ms in cond (distinctly d) rest false

nothing : (b : Bool) → cond b false false ≡ false
nothing true = refl
nothing false = refl

array_distinct : (ms : Members) → distinct_items ms square ≡ insides ms
unfolding distinct_items
array_distinct empty = refl
array_distinct (member n label d ms) = rw (array_distinct ms)

object_distinct : (ms : Members) → distinct_items ms curly ≡ cond (repeats_some ms) false (insides ms)
unfolding distinct_items
object_distinct empty = refl
object_distinct (member n label d ms) = rw (object_distinct ms) (go (is_there (seek n ms)) (distinctly d) (repeats_some ms) (insides ms))
  where
    go : (a b r i : Bool) → cond a false (cond b (cond r false i) false) ≡ cond (cond a true r) false (cond b i false)
    go true b r i = refl
    go false true r i = refl
    go false false r i = sym (nothing r)

-- one walk and then another
then : (a b : Bool) (r : Option ℕ) → cond a (cond b r None) None ≡ cond (cond a b false) r None
then true b r = refl
then false b r = refl

-- ---- the walk over a document

-- an object, given the walk over its members
object_on : (p : List ℕ) (ms : Members) (at n : ℕ) (rest : List ℕ) → drop at p ≡ packed (object ms) ++ rest
    → survey_from p (at + 3) (n + 1) ≡ cond (insides ms) (survey_from p (at + 3 + length (packed_items ms curly)) (n + 1 + count_all ms)) None
    → survey_from p at n ≡ cond (distinct_items ms curly) (survey_from p (at + 3 + length (packed_items ms curly)) (n + 1 + count_all ms)) None
object_on p ms at n rest e inside = rw (object_distinct ms) (go (repeats_some ms) (repeats_there p ms at rest e))
  where
    go : (r : Bool) → repeats_at p at ≡ r
        → survey_from p at n ≡ cond (cond r false (insides ms)) (survey_from p (at + 3 + length (packed_items ms curly)) (n + 1 + count_all ms)) None
    go true h = field_twice p at n 7 (packed_items ms curly) rest e h
    go false h = into_object p at n 7 (packed_items ms curly) rest e refl h ∙ inside

-- an item, given the walk over its value and over the items after it
item_on : (p : List ℕ) (b : Bracket) (name label : List ℕ) (d : Doc) (ms : Members) (at n : ℕ) (rest : List ℕ) → drop at p ≡ packed_items (member name label d ms) b ++ rest
    → ((to : ℕ) → drop to p ≡ packed d ++ (packed_items ms b ++ rest) → survey_from p to n ≡ cond (distinctly d) (survey_from p (to + length (packed d)) (n + count_of d)) None)
    → ((to : ℕ) → drop to p ≡ packed_items ms b ++ rest
    → survey_from p to (n + count_of d) ≡ cond (insides ms) (survey_from p (to + length (packed_items ms b)) (n + count_of d + count_all ms)) None)
    → survey_from p at n ≡ cond (insides (member name label d ms)) (survey_from p (at + length (packed_items (member name label d ms) b)) (n + (count_of d + count_all ms))) None
item_on p b name label d ms at n rest e value items =
    let after = packed d ++ packed_items ms b in
    let v = at + length (name_field b name) in
    let h : drop at p ≡ name_field b name ++ (after ++ rest) = e ∙ append_assoc (name_field b name) after rest in
    let f : drop v p ≡ packed d ++ (packed_items ms b ++ rest) = beyond p at (name_field b name) (after ++ rest) h ∙ append_assoc (packed d) (packed_items ms b) rest in
    let g : drop (v + length (packed d)) p ≡ packed_items ms b ++ rest = beyond p v (packed d) (packed_items ms b ++ rest) f in
    let i : v + length (packed d) + length (packed_items ms b) ≡ at + length (name_field b name ++ after) =
    omega (arith, length-append (name_field b name) after, length-append (packed d) (packed_items ms b)) in
    let j : n + count_of d + count_all ms ≡ n + (count_of d + count_all ms) = omega arith in
    name_on p b name at n (after ++ rest) h ∙ value v f
    ∙ ap (λ (s : Option ℕ). cond (distinctly d) s None) (items (v + length (packed d)) g)
    ∙ then (distinctly d) (insides ms) (survey_from p (v + length (packed d) + length (packed_items ms b)) (n + count_of d + count_all ms))
    ∙ ap₂ (λ (to m : ℕ). cond (cond (distinctly d) (insides ms) false) (survey_from p to m) None) i j

mutual
  unfolding distinctly count_of count_all

  doc_on : (p : List ℕ) (d : Doc) → Every Labelled Lexeme d → (at n : ℕ) (rest : List ℕ) → drop at p ≡ packed d ++ rest
      → survey_from p at n ≡ cond (distinctly d) (survey_from p (at + length (packed d)) (n + count_of d)) None
  doc_on p (scalar kind token) h at n rest e =
      let z : at + 3 + length (content_in kind token) ≡ at + length (field_of kind (content_in kind token)) = omega arith in
      past_value p at n kind (content_in kind token) rest e (lexeme_kind h) ∙ ap (λ (to : ℕ). survey_from p to (n + 1)) z
  doc_on p (array ms) h at n rest e =
      let i : at + 3 + length (packed_items ms square) ≡ at + length (packed (array ms)) = omega arith in
      let j : n + 1 + count_all ms ≡ n + count_of (array ms) = omega arith in
      into_array p at n 6 (packed_items ms square) rest e refl
      ∙ items_on p ms square h (at + 3) (n + 1) rest (content_there p at 6 (packed_items ms square) rest e)
      ∙ ap₂ (λ (to m : ℕ). cond (insides ms) (survey_from p to m) None) i j
      ∙ ap (λ (b : Bool). cond b (survey_from p (at + length (packed (array ms))) (n + count_of (array ms))) None) (sym (array_distinct ms))
  doc_on p (object ms) h at n rest e =
      let i : at + 3 + length (packed_items ms curly) ≡ at + length (packed (object ms)) = omega arith in
      let j : n + 1 + count_all ms ≡ n + count_of (object ms) = omega arith in
      object_on p ms at n rest e (items_on p ms curly h (at + 3) (n + 1) rest (content_there p at 7 (packed_items ms curly) rest e))
      ∙ ap₂ (λ (to m : ℕ). cond (distinct_items ms curly) (survey_from p to m) None) i j

  items_on : (p : List ℕ) (ms : Members) (b : Bracket) → EveryIn Labelled Lexeme b ms → (at n : ℕ) (rest : List ℕ) → drop at p ≡ packed_items ms b ++ rest
      → survey_from p at n ≡ cond (insides ms) (survey_from p (at + length (packed_items ms b)) (n + count_all ms)) None
  items_on p empty b h at n rest e =
      let i : at ≡ at + 0 = omega arith in
      let j : n ≡ n + 0 = omega arith in
      ap₂ (survey_from p) i j
  items_on p (member name label d ms) b h at n rest e =
      let every = every_parts Labelled Lexeme b name label d ms h in
      item_on p b name label d ms at n rest e
      (λ to f. doc_on p d every.1 to n (packed_items ms b ++ rest) f) (λ to f. items_on p ms b every.2 to (n + count_of d) rest f)

-- ---- the whole

module _ (depth : ℕ) (p : List ℕ) (small : AllBelow 256 p) (d : Doc) (h : doc_in depth p ≡ some d) where
  -- theorem: bytes that say a document are no more than a packing may have
  pub whole_length : length p ≤ longest
  whole_length = let f = doc_sound depth p small d h in rw f.packing at ((fits_whole d).0 f.fits)

  -- theorem: what a survey says of them is the document's number of values, unless an object in it has a name twice
  pub survey_said : survey_of p ≡ surveyed d
  unfolding survey_of surveyed
  survey_said =
      let f = doc_sound depth p small d h in
      let l : length p ≡ length (packed d) = ap length (sym f.packing) in
      let z : 0 + count_of d ≡ count_of d = omega arith in
      rw (le-ltb longest (length p) whole_length)
      (doc_on p d f.labels 0 0 [] (sym f.packing ∙ sym (append-nil (packed d)))
      ∙ ap (λ (s : Option ℕ). cond (distinctly d) s None) (survey_end p (0 + length (packed d)) (0 + count_of d) (omega arith) ∙ ap Some z))
