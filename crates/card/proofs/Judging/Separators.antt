-- The marks of a list's entries, and the rule on separators.
-- Assumes nothing.
use mathlib.Core.Path.{◌≡◌, refl, sym, ap, ◌∙◌}
use mathlib.Core.List.{List, [], ◌∷◌}
use mathlib.Core.Bool.{Bool, not, false, ◌&&◌, ◌||◌, or-false, and-true, or_assoc, and_assoc}
use Prim.Native.Nat.{ℕ}
use Rattle.laws.proofs.Bools.{or_false as neither}
use Rattle.laws.specs.Tests.{any_mark, all_marks, adjacent}
use Rattle.text.specs.Tree.{Forest}
use Rattle.text.specs.Tree as T
use Rattle.text.specs.Firsts.{rest_at}
use Rattle.text.specs.Doc.{doc_of, members_of}
use Rattle.text.proofs.Promise.{members_first, members_none}
use Rattle.contact.specs.Rules.{is_separator, marks_of, badly_separated}
use Rattle.card.specs.Rows.{ValueAt}
use Rattle.card.specs.Marks.{no_marks, mark_on, tally}
use Rattle.card.specs.declared.rules.Marks.{Marks}

-- ---- the marks of a list

tally_any : (m : Marks) (ss : List Bool) → (tally m ss).any ≡ (m.any || any_mark ss)
unfolding tally any_mark
tally_any m [] = sym (or-false m.any)
tally_any m (s ∷ ss) = tally_any (mark_on m s) ss ∙ or_assoc m.any s (any_mark ss)

tally_all : (m : Marks) (ss : List Bool) → (tally m ss).all ≡ (m.all && all_marks ss)
unfolding tally all_marks
tally_all m [] = sym (and-true m.all)
tally_all m (s ∷ ss) = tally_all (mark_on m s) ss ∙ and_assoc m.all s (all_marks ss)

tally_twice : (m : Marks) (ss : List Bool) → (tally m ss).twice ≡ (m.twice || adjacent (m.last ∷ ss))
unfolding tally adjacent
tally_twice m [] = sym (or-false m.twice)
tally_twice m (s ∷ ss) = tally_twice (mark_on m s) ss ∙ or_assoc m.twice (m.last && s) (adjacent (s ∷ ss))

adjacent_fresh : (ss : List Bool) → adjacent (false ∷ ss) ≡ adjacent ss
unfolding adjacent
adjacent_fresh [] = refl
adjacent_fresh (s ∷ ss) = refl

module _ (m : Marks) (ss : List Bool) (e : m ≡ tally no_marks ss) where
  pub told_any : any_mark ss ≡ m.any
  told_any = sym (ap (λ (x : Marks). x.any) e ∙ tally_any no_marks ss)

  pub told_all : all_marks ss ≡ m.all
  told_all = sym (ap (λ (x : Marks). x.all) e ∙ tally_all no_marks ss)

  pub told_twice : adjacent ss ≡ m.twice
  told_twice = sym (ap (λ (x : Marks). x.twice) e ∙ tally_twice no_marks ss ∙ adjacent_fresh ss)

-- the entries one by one
module _ (text : List ℕ) where
  abbrev pub tally_in : Marks → Forest → Marks
  tally_in m f = tally m (marks_of (members_of text f))

  pub tally_on : {t : List ℕ} {at : ℕ} (m n : Marks) (s : Bool) → n ≡ mark_on m s → (ws : Forest) (v : ValueAt t at ws) → s ≡ is_separator (doc_of text ws)
      → tally_in m ws ≡ tally_in n (rest_at ws)
  unfolding tally marks_of
  tally_on m n s e ws v is = rw (members_first text ws v.some, ← is, e)

  pub tally_end : (m : Marks) → tally_in m T.none ≡ m
  unfolding tally marks_of
  tally_end m = rw (members_none text)

-- without a separator no two stand in a row
unmarked : (ss : List Bool) → any_mark ss ≡ false → adjacent ss ≡ false
unfolding any_mark adjacent
unmarked [] e = refl
unmarked (s ∷ []) e = refl
unmarked (s ∷ k ∷ ss) e =
    let (first, rest) = neither s (any_mark (k ∷ ss)) e in
    rw (first, unmarked (k ∷ ss) rest)

-- ---- a list by its tally

module _ (m : Marks) (ss : List Bool) (e : m ≡ tally no_marks ss) (ordered : Bool) where
  pub no_separator : m.any ≡ false → false ≡ badly_separated ss ordered
  unfolding badly_separated
  no_separator q = let z = told_any m ss e ∙ q in rw (unmarked ss z, z)

  pub separated : m.twice || (m.any && not ordered) ≡ badly_separated ss ordered
  unfolding badly_separated
  separated = rw (told_twice m ss e, told_any m ss e)
