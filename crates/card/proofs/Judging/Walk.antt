-- The walk over a card's rows, by the definition's own steps:
--     row-unfit, row-object, row-other    the number of one row
--     numbered                            what is broken has a number
--     breach-free                         there is none where nothing is judged
--     breach-row                          a value's breach is its row's
--     pass                                a value more among those passed
--     Ahead, judging-starts, -some, -none, -ends    or the first below it: what is passed and what is left of the members of a value
-- Assumes nothing.
use Prim.Native.Nat.{ℕ, zero, suc, ◌+◌, ◌≤◌, ◌<◌}
use mathlib.Core.Path.{◌≡◌, refl, sym, ap, ◌∙◌}
use mathlib.Core.Bool.{Bool, true, false, cond, ◌&&◌}
use mathlib.Core.List.{List, [], ◌∷◌}
use native.Mathlib.Omega.{arith}
use Rattle.text.specs.Strings.{name_of}
use Rattle.text.specs.Tree.{Forest, none, leaf, node, size, join}
use Rattle.text.specs.Firsts.{HasFirst, Kinds, kind_at, name_start, name_end, inside_at, below_at, rest_at}
use Rattle.text.specs.Standing.{RowsAt, Stands, StandsTo}
use Rattle.text.specs.Doc.{Name, Doc, scalar, array, object, members_of, doc_of, children_of, count_of, Members, empty, member}
use Rattle.text.proofs.Promise.{first_of, first_row_lem, first_room, inside, alone, after, some_at, none_at, doc_kind, doc_token, doc_below, members_first, members_none, count_doc}
use Rattle.contact.specs.Schema.{ObjectType, Ty, any, simple, object_of, list_of, map_of, by_type, fits}
use Rattle.contact.proofs.Judging.Table.{simple_low}
use Rattle.contact.specs.Judge.{member_type, key_fits, row_number, Breach, nothing, found, on_this_row, or_else, breach_of, breach_among}
use Rattle.json_reader.specs.Rows.{name_start_in, name_end_in, below_in}
use Rattle.card.specs.Types.{is_any, NotObject, AsObject}
use Rattle.card.specs.declared.items.Role.{Role}
use Rattle.card.specs.declared.items.Role.TheVariants.{As, Between, Other}
use Rattle.card.specs.Rows.{ValueAt, names_onto, row_key}
use Rattle.card.specs.Walk.{object_number, value_number, sheet_number, found_of}
use Rattle.std.specs.Prelude.{Option, Some, None}
use Rattle.std.specs.Option.{is_some}
use Rattle.card.specs.declared.walk.Broken.{Broken}
use Rattle.card.specs.declared.walk.Broken.TheVariants.{Kind, Missing, Value, Rule}
use Rattle.json_reader.proofs.Seeking.{rest_kinds, inside_kinds}

-- ---- one row ----

and_true : (b : Bool) → b && true ≡ b
and_true true = refl
and_true false = refl

module _ (t : List ℕ) (f : Forest) (s : HasFirst f) where
  pub row_unfit : (ty : Ty) (key : Bool) → fits ty (kind_at f) ≡ false → 11 ≡ row_number ty key (doc_of t f)
  unfolding row_number
  row_unfit ty key e = rw (doc_kind t f s, e)

  pub row_object : (o : ObjectType) (key : Bool) → fits (object_of o) (kind_at f) ≡ true
      → object_number o key (members_of t (inside_at f)) ≡ row_number (object_of o) key (doc_of t f)
  unfolding row_number object_number
  row_object o key e = rw (doc_below t f, doc_kind t f s, e, and_true key)

  row_value : (ty : Ty) (key : Bool) → NotObject ty → fits ty (kind_at f) ≡ true → value_number ty key t f ≡ row_number ty key (doc_of t f)
  unfolding row_number value_number
  row_value any true n e = refl
  row_value any false n e = refl
  row_value (simple l) true n e = rw (doc_kind t f s, doc_token t f s (simple_low l (kind_at f) e), e) refl
  row_value (simple l) false n e = rw (doc_kind t f s, e)
  row_value (object_of o) key n e = absurd n
  row_value (list_of ty) true n e = rw (doc_kind t f s, e)
  row_value (list_of ty) false n e = rw (doc_kind t f s, e)
  row_value (map_of keys ty) true n e = rw (doc_kind t f s, e)
  row_value (map_of keys ty) false n e = rw (doc_kind t f s, e)
  row_value (by_type usual special) key n e = absurd n

  -- a choice of two types is none that stands at a value, and would ask nothing of it but its kind
  row_choice : (usual special : ObjectType) (key : Bool) → fits (by_type usual special) (kind_at f) ≡ true
      → value_number (by_type usual special) key t f ≡ row_number (by_type usual special) key (doc_of t f)
  unfolding row_number value_number
  row_choice usual special true e = rw (doc_kind t f s, e)
  row_choice usual special false e = rw (doc_kind t f s, e)

  -- of a type that is no object type, by its role
  pub row_other : (r : Role) (ty : Ty) (key : Bool) → AsObject r ty → ((o : ℕ) → r ≡ As o → ⊥) → fits ty (kind_at f) ≡ true
      → value_number ty key t f ≡ row_number ty key (doc_of t f)
  row_other (As o) ty key is apart e = absurd (apart o refl)
  row_other (Between usual special) ty key is apart e = rw is (row_choice usual special key (rw is at e))
  row_other Other ty key is apart e = row_value ty key is e

-- what is broken has a number
pub numbered : (b : Broken) → sheet_number b ≡ 0 → ⊥
numbered Kind e = omega (arith, e)
numbered Missing e = omega (arith, e)
numbered Value e = omega (arith, e)
numbered Rule e = omega (arith, e)

-- ---- what is below ----

on_row : (n row : ℕ) (b : Breach) → (n ≡ 0 → ⊥) → found row n ≡ on_this_row n row b
on_row zero row b ne = absurd (ne refl)
on_row (suc n) row b ne = refl

breach_steps : (ty : Ty) (key : Bool) (row : ℕ) (d : Doc)
    → breach_of ty key row d ≡ on_this_row (row_number ty key d) row (breach_among ty [] (row + 1) (children_of d))
unfolding breach_of breach_among
breach_steps ty key row (scalar kind token) = refl
breach_steps ty key row (array ms) = refl
breach_steps ty key row (object ms) = refl

pub breach_row : (ty : Ty) (key : Bool) (row n : ℕ) (d : Doc) → (n ≡ 0 → ⊥) → n ≡ row_number ty key d → found row n ≡ breach_of ty key row d
breach_row ty key row n d ne e =
    let inside = breach_among ty [] (row + 1) (children_of d) in
    on_row n row inside ne ∙ ap (λ m. on_this_row m row inside) e ∙ sym (breach_steps ty key row d)

breach_below : (ty : Ty) (key : Bool) (row : ℕ) (d : Doc) → 0 ≡ row_number ty key d → breach_of ty key row d ≡ breach_among ty [] (row + 1) (children_of d)
breach_below ty key row d e = breach_steps ty key row d ∙ ap (λ m. on_this_row m row (breach_among ty [] (row + 1) (children_of d))) (sym e)

-- ---- where nothing is judged ----

mutual
  unfolding breach_of breach_among row_number

  free_value : (row : ℕ) (d : Doc) → breach_of any true row d ≡ nothing
  free_value row (scalar kind token) = refl
  free_value row (array ms) = free_members [] (row + 1) ms
  free_value row (object ms) = free_members [] (row + 1) ms

  free_members : (passed : List Name) (row : ℕ) (ms : Members) → breach_among any passed row ms ≡ nothing
  free_members passed row empty = refl
  free_members passed row (member n label d ms) =
      ap (λ b. or_else b (breach_among any (n ∷ passed) (row + count_of d) ms)) (free_value row d) ∙ free_members (n ∷ passed) (row + count_of d) ms

no_breach : (key : Bool) (ty : Ty) (row : ℕ) (d : Doc) → true ≡ cond key (is_any ty) false → nothing ≡ breach_of ty key row d
no_breach true any row d e = sym (free_value row d)
no_breach true (simple l) row d e = cc
no_breach true (object_of o) row d e = cc
no_breach true (list_of ty) row d e = cc
no_breach true (map_of keys ty) row d e = cc
no_breach true (by_type usual special) row d e = cc
no_breach false ty row d e = cc

pub breach_free : (ty : Ty) (key : Bool) (row : ℕ) (d : Doc) {b : Bool} → b ≡ cond key (is_any ty) false → b ≡ true → nothing ≡ breach_of ty key row d
breach_free ty key row d e h = no_breach key ty row d (sym h ∙ e)

-- ---- the members, one after the other ----

-- the first of the members, and those after it
among_first : (t : List ℕ) (ty : Ty) (passed : List Name) (at : ℕ) (ws : Forest) → HasFirst ws
    → breach_among ty passed at (members_of t ws)
    ≡ or_else (breach_of (member_type ty (name_of t (name_start ws) (name_end ws)) (doc_of t ws)) (key_fits ty (record { name = name_of t (name_start ws) (name_end ws); before = passed })) at (doc_of t ws))
    (breach_among ty (name_of t (name_start ws) (name_end ws) ∷ passed) (at + 1 + below_at ws) (members_of t (rest_at ws)))
unfolding breach_among breach_of
among_first t ty passed at ws s =
    let c : at + count_of (doc_of t ws) ≡ at + 1 + below_at ws = omega (arith, count_doc t ws s) in
    rw (members_first t ws s, c)

-- ---- the members passed ----

join_size : (f g : Forest) → size (join f g) ≡ size f + size g
unfolding size join
join_size none g = omega arith
join_size (leaf kind ns ne from to rest) g = omega (arith, join_size rest g)
join_size (node b ns ne from to within rest) g = omega (arith, join_size rest g)

join_rows : (table : List ℕ) (k : ℕ) (f g : Forest) → RowsAt table k f → RowsAt table (k + size f) g → RowsAt table k (join f g)
unfolding size join
join_rows table k none g r h = let e : k + 0 ≡ k = omega arith in rw e at h
join_rows table k (leaf kind ns ne from to rest) g r h =
    let e : k + suc (size rest) ≡ k + 1 + size rest = omega arith in (r.0, join_rows table (k + 1) rest g r.1 (rw e at h))
join_rows table k (node b ns ne from to within rest) g r h =
    let e : k + suc (size within + size rest) ≡ k + 1 + size within + size rest = omega arith in
    (r.0, r.1, join_rows table (k + 1 + size within) rest g r.2 (rw e at h))

join_names : (t : List ℕ) (f g : Forest) (names : List Name)
    → names_onto (members_of t (join f g)) names ≡ names_onto (members_of t g) (names_onto (members_of t f) names)
unfolding names_onto members_of join
join_names t none g names = refl
join_names t (leaf kind ns ne from to rest) g names = join_names t rest g (name_of t ns ne ∷ names)
join_names t (node b ns ne from to within rest) g names = join_names t rest g (name_of t ns ne ∷ names)

first_name : (t : List ℕ) (ws : Forest) → HasFirst ws → (names : List Name)
    → names_onto (members_of t (first_of ws)) names ≡ name_of t (name_start ws) (name_end ws) ∷ names
unfolding names_onto members_of
first_name t none s names = absurd s
first_name t (leaf kind ns ne from to rest) s names = refl
first_name t (node b ns ne from to within rest) s names = refl

first_size : (ws : Forest) → HasFirst ws → size (first_of ws) ≡ 1 + below_at ws
unfolding size
first_size none s = absurd s
first_size (leaf kind ns ne from to rest) s = omega arith
first_size (node b ns ne from to within rest) s = omega arith

-- one more value has been passed
pass : {table : List ℕ} {k at : ℕ} (f ws : Forest) → StandsTo table k at f → HasFirst ws → Stands table at ws
    → StandsTo table k (at + 1 + below_at ws) (join f (first_of ws))
pass {table} {k} {at} f ws h s w =
    let one = alone ws s w in
    let n : size (join f (first_of ws)) ≡ size f + (1 + below_at ws) = join_size f (first_of ws) ∙ ap (λ m. size f + m) (first_size ws s) in
    record {
      stands =
          record {
            rows = join_rows table k f (first_of ws) h.stands.rows (rw h.ends one.rows);
            room = omega (arith, n, h.ends, first_room ws s w);
          };
      ends = omega (arith, n, h.ends);
    }

-- ---- the members ahead ----

-- Of the value f at a row, whose own row breaks nothing, some members have been passed and these are left, from a row on.
pub record Ahead (t table : List ℕ) (ty : Ty) (key : Bool) (row end : ℕ) (f : Forest) (at : ℕ) : Type 0 where
  pub passed : Forest
  pub ahead : Forest
  pub passes : StandsTo table (row + 1) at passed
  pub stands : StandsTo table at end ahead
  pub kinds : Kinds ahead
  pub is : breach_of ty key row (doc_of t f) ≡ breach_among ty (names_onto (members_of t passed) []) at (members_of t ahead)

module _ (t table : List ℕ) (ty : Ty) (key : Bool) (row end : ℕ) where
  abbrev pub Judging : ℕ → Type 0
  Judging at = (f : Forest) → ValueAt table row f → Kinds f → Ahead t table ty key row end f at

  pub judging_starts : end ≡ row + 1 + below_in table row → ((f : Forest) → ValueAt table row f → Kinds f → 0 ≡ row_number ty key (doc_of t f))
      → Judging (row + 1)
  unfolding names_onto size members_of
  judging_starts e fine f v k =
      record {
        passed = none;
        ahead = inside_at f;
        passes = record { stands = record { rows = tt; room = omega (arith, first_room f v.some v.stands) }; ends = omega arith };
        stands = rw (e ∙ ap (λ n. row + 1 + n) (first_row_lem f v.some v.stands).below) (inside f v.some v.stands);
        kinds = inside_kinds f k;
        is = breach_below ty key row (doc_of t f) (fine f v k) ∙ ap (breach_among ty [] (row + 1)) (doc_below t f);
      }

module _ {t table : List ℕ} {ty : Ty} {key : Bool} {row end : ℕ} {f : Forest} {at : ℕ} (a : Ahead t table ty key row end f at) where
  -- the value at hand
  module _ (lt : at < end) where
    pub value_here : ValueAt table at a.ahead
    value_here = record { some = some_at a.ahead a.stands lt; stands = a.stands.stands }

    -- its breach, of the type and key that the code has asked
    module _ (inner : Ty) (fit : Bool) (b : Breach) (typed : inner ≡ member_type ty (name_of t (name_start_in table at) (name_end_in table at)) (doc_of t a.ahead))
        (keyed : fit ≡ key_fits ty (row_key t table a.passed at)) (is : b ≡ breach_of inner fit at (doc_of t a.ahead)) where
      names : List Name
      names = names_onto (members_of t a.passed) []

      rest_of : Breach
      unfolding names
      rest_of =
          breach_among ty (name_of t (name_start a.ahead) (name_end a.ahead) ∷ names) (at + 1 + below_at a.ahead) (members_of t (rest_at a.ahead))

      by_first : breach_of ty key row (doc_of t f) ≡ or_else b rest_of
      unfolding names rest_of
      by_first =
          let r = first_row_lem a.ahead value_here.some a.stands.stands in
          let n : name_of t (name_start_in table at) (name_end_in table at) ≡ name_of t (name_start a.ahead) (name_end a.ahead) = rw (r.name_starts, r.name_ends) in
          let name = name_of t (name_start a.ahead) (name_end a.ahead) in
          let q : breach_of (member_type ty name (doc_of t a.ahead)) (key_fits ty (record { name = name; before = names })) at (doc_of t a.ahead) ≡ b =
          rw (is, typed, keyed, n) refl in
          a.is ∙ among_first t ty names at a.ahead value_here.some ∙ ap (λ x. or_else x rest_of) q

      judging_hit : (r m : ℕ) → b ≡ found r m → found r m ≡ breach_of ty key row (doc_of t f)
      judging_hit r m e = sym (by_first ∙ ap (λ x. or_else x rest_of) e)

      judging_on : b ≡ nothing → Ahead t table ty key row end f (at + 1 + below_in table at)
      unfolding names rest_of
      judging_on e =
          let r = first_row_lem a.ahead value_here.some a.stands.stands in
          let q : names_onto (members_of t (join a.passed (first_of a.ahead))) [] ≡ name_of t (name_start a.ahead) (name_end a.ahead) ∷ names =
          join_names t a.passed (first_of a.ahead) [] ∙ first_name t a.ahead value_here.some names in
          record {
            passed = join a.passed (first_of a.ahead);
            ahead = rest_at a.ahead;
            passes = rw r.below (pass a.passed a.ahead a.passes value_here.some a.stands.stands);
            stands = rw r.below (after a.ahead value_here.some a.stands);
            kinds = rest_kinds a.ahead a.kinds;
            is = rw (r.below, q) (by_first ∙ ap (λ x. or_else x rest_of) e);
          }

      -- by what the code has found
      pub judging_some : (o : Option (ℕ × Broken)) → b ≡ found_of o → is_some o ≡ true → found_of o ≡ breach_of ty key row (doc_of t f)
      judging_some (Some (r, broken)) e s = judging_hit r (sheet_number broken) e
      judging_some None e s = cc

      pub judging_none : (o : Option (ℕ × Broken)) → b ≡ found_of o → is_some o ≡ false → Ahead t table ty key row end f (at + 1 + below_in table at)
      judging_none (Some (r, broken)) e s = cc
      judging_none None e s = judging_on e

  pub judging_ends : end ≤ at → nothing ≡ breach_of ty key row (doc_of t f)
  unfolding breach_among breach_of
  judging_ends le =
      let among = breach_among ty (names_onto (members_of t a.passed) []) at in
      sym (a.is ∙ ap (λ w. among (members_of t w)) (none_at a.ahead a.stands le) ∙ ap among (members_none t))
