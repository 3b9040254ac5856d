-- The code's table of rules:
--     any-hit, any-on, any-end       a search through the words of a rule
--     fitting, unfitting             a member that is found counts, if its kind fits
--     rule_told                      a rule by its shape and words is the rule of the definitions, by computation over all of them
-- Assumes nothing.
use Rattle.std.specs.Prelude.{Some, None}
use Prim.Native.Nat.{ℕ, zero, suc, ◌+◌, ◌≤◌}
use native.Mathlib.Numerals.{add-one}
use mathlib.Core.Path.{◌≡◌, refl, sym, ap, ◌∙◌}
use mathlib.Core.List.{List, [], ◌∷◌, map}
use mathlib.Core.Bool.{Bool, true, false}
use lib.ListN.{length, get_or, drop, get_or-map, drop_of_length-le}
use Rattle.text.specs.Strings.{name_of}
use Rattle.text.specs.Tree.{Forest}
use Rattle.text.specs.Doc.{Name, Members, members_of}
use Rattle.contact.specs.Schema.{ObjectType, Ty, Rule, types, properties, type_in, fits}
use Rattle.contact.specs.Rules.{present, any_counts, breaks_one}
use Rattle.json_reader.specs.Rows.{kind_in, name_start_in, name_end_in}
use Rattle.card.specs.Catalog.{gathered, all_rules, no_rule, rule_at, shape_of, rule_words}
use Rattle.card.specs.Rows.{ValueAt, ValueOf}
use Rattle.json_reader.specs.Lookup.{Standing}
use Rattle.card.specs.RuleTable.{is_counted, any_counted, then_broken, by_shape}
use Rattle.card.proofs.Judging.Values.{value_kind}

-- ---- one of some words

module _ (o : ObjectType) (ms : Members) where
  pub any_hit : (ns : List Name) (j : ℕ) → is_counted o ms (get_or ns j []) ≡ true → any_counted o ms (drop j ns) ≡ true
  unfolding is_counted any_counted
  any_hit [] zero e = e
  any_hit [] (suc j) e = e
  any_hit (n ∷ ns) zero e = rw e
  any_hit (n ∷ ns) (suc j) e = any_hit ns j e

  pub any_on : (ns : List Name) (j : ℕ) → is_counted o ms (get_or ns j []) ≡ false → any_counted o ms (drop j ns) ≡ any_counted o ms (drop (j + 1) ns)
  unfolding any_counted
  any_on [] zero e = refl
  any_on [] (suc j) e = rw add-one
  any_on (n ∷ ns) zero e = rw e
  any_on (n ∷ ns) (suc j) e = rw add-one (rw add-one at (any_on ns j e))

  pub any_end : (ns : List Name) (j : ℕ) → length ns ≤ j → any_counted o ms (drop j ns) ≡ false
  unfolding any_counted
  any_end ns j h = rw (drop_of_length-le ns h)

-- ---- members that count

-- a member that is found by its name counts, if its kind fits the type that the table has for the name
module _ (text t : List ℕ) (end : ℕ) (n : Name) (f : Forest) (o : ObjectType) (k : ℕ) (found : Standing text t end n f k) (ty : Ty)
    (typed : ty ≡ type_in (properties o) (name_of text (name_start_in t k) (name_end_in t k))) where
  value : ValueAt t k found.found
  value = record { some = found.some_found; stands = found.stands.stands }

  type_is : type_in (properties o) n ≡ ty
  type_is = sym (typed ∙ ap (type_in (properties o)) found.named)

  pub fitting : fits ty (kind_in t k) ≡ true → ValueOf text t (Some k) (present o n (members_of text f))
  unfolding present
  fitting e = rw (found.is, type_is, ← value_kind text found.found value, e) (found.found, value, refl)

  pub unfitting : fits ty (kind_in t k) ≡ false → ValueOf text t None (present o n (members_of text f))
  unfolding present
  unfitting e = rw (found.is, type_is, ← value_kind text found.found value, e) tt

-- ---- all rules

-- each rule by its shape and its words
by_words : ObjectType → Members → Rule → Bool
by_words o ms r = by_shape o ms (shape_of r) (rule_words r)

all_rules_lem : (o : ObjectType) (ms : Members) → map (by_words o ms) all_rules ≡ map (breaks_one o ms) all_rules
unfolding by_words by_shape then_broken any_counted is_counted all_rules gathered types any_counts
all_rules_lem o ms = refl

pub rule_told : (o : ObjectType) (ms : Members) (i : ℕ) → by_shape o ms (shape_of (rule_at i)) (rule_words (rule_at i)) ≡ breaks_one o ms (rule_at i)
unfolding by_words by_shape any_counted any_counts
rule_told o ms i =
    sym (get_or-map (by_words o ms) all_rules i no_rule)
    ∙ ap (λ (bs : List Bool). get_or bs i true) (all_rules_lem o ms)
    ∙ get_or-map (breaks_one o ms) all_rules i no_rule
