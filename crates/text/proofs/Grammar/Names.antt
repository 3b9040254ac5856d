-- Names by what they spell (specs/Seats.antt) and by what reading compares, their decoded bytes:
--     there-named, known-named     a name that spells the same code points is found by the decoded bytes
--     named-known                  and what is found so spells the same, where the names that are looked through spell (`NamesSpell`)
-- Assumes nothing.
use mathlib.Core.Path.{◌≡◌, refl}
use mathlib.Core.List.{List}
use mathlib.Core.Bool.{Bool, true, false, cond}
use Prim.Native.Nat.{ℕ}
use Rattle.laws.specs.Lists.{part_of}
use Rattle.laws.specs.Order.{same}
use Rattle.laws.proofs.Orders.{same_eq, eq_same}
use Rattle.text.specs.Strings.{decode, name_of}
use Rattle.text.specs.Spelling.{Spells, utf8s}
use Rattle.text.specs.Tree.{Bracket, Forest, none, leaf, node, join}
use Rattle.text.specs.Reader.{named}
use Rattle.text.specs.Seats.{Named}
use Rattle.text.proofs.Spelling.Decoded.{decode_spelled}
use Rattle.text.proofs.Spelling.Encoding.{same_codes}
use Rattle.text.proofs.Grammar.Stands.{clash}

or_later : (c : Bool) {d : Bool} → d ≡ true → cond c true d ≡ true
or_later true e = refl
or_later false e = e

-- the names of these values, not looking inside them, all spell; a value that has no name has the empty one
pub data NamesSpell (t : List ℕ) : Forest → Type 0 where
  no_more : NamesSpell t none
  a_leaf : {kind ns ne from to : ℕ} {rest : Forest} {codes : List ℕ} → Spells (part_of t ns ne) codes → NamesSpell t rest → NamesSpell t (leaf kind ns ne from to rest)
  a_node : {b : Bracket} {ns ne from to : ℕ} {inner rest : Forest} {codes : List ℕ} → Spells (part_of t ns ne) codes → NamesSpell t rest
      → NamesSpell t (node b ns ne from to inner rest)

-- the name from i up to e spells what one of these names spells
pub record KnownName (t : List ℕ) (i e : ℕ) (before : Forest) : Type 0 where
  pub codes : List ℕ
  pub spells : Spells (part_of t i e) codes
  pub there : Named t codes before

module _ (t : List ℕ) where
  pub names_join : {f g : Forest} → NamesSpell t f → NamesSpell t g → NamesSpell t (join f g)
  unfolding join
  names_join NamesSpell.no_more n = n
  names_join (NamesSpell.a_leaf s r) n = NamesSpell.a_leaf s (names_join r n)
  names_join (NamesSpell.a_node s r) n = NamesSpell.a_node s (names_join r n)

  pub there_named : {codes : List ℕ} {f : Forest} → Named t codes f → named t (utf8s codes) f ≡ true
  unfolding named
  there_named {codes = codes} (Named.leaf_here {ns} {ne} s) = rw (eq_same (name_of t ns ne) (utf8s codes) (decode_spelled s))
  there_named {codes = codes} (Named.node_here {ns} {ne} s) = rw (eq_same (name_of t ns ne) (utf8s codes) (decode_spelled s))
  there_named {codes = codes} (Named.leaf_on {ns} {ne} n) = or_later (same (name_of t ns ne) (utf8s codes)) (there_named n)
  there_named {codes = codes} (Named.node_on {ns} {ne} n) = or_later (same (name_of t ns ne) (utf8s codes)) (there_named n)

  pub known_named : {i e : ℕ} {f : Forest} → KnownName t i e f → named t (name_of t i e) f ≡ true
  known_named k = rw (decode_spelled k.spells) (there_named k.there)

  module _ {w codes : List ℕ} (s : Spells w codes) where
    -- a name that spells, and decodes to the same bytes
    same_name : {v ds : List ℕ} → Spells v ds → same (decode v) (decode w) ≡ true → Spells v codes
    same_name {v} p e = rw (same_codes p s (same_eq (decode v) (decode w) e)) at p

    named_there : {f : Forest} → NamesSpell t f → named t (decode w) f ≡ true → Named t codes f
    unfolding named
    named_there NamesSpell.no_more e = clash false e refl
    named_there (NamesSpell.a_leaf {kind} {ns} {ne} {from} {to} {rest} p r) e = go (same (name_of t ns ne) (decode w)) refl e (λ z. named_there r z)
      where
        go : (c : Bool) → same (name_of t ns ne) (decode w) ≡ c → cond c true (named t (decode w) rest) ≡ true → (named t (decode w) rest ≡ true → Named t codes rest)
            → Named t codes (leaf kind ns ne from to rest)
        go true q z g = Named.leaf_here (same_name p q)
        go false q z g = Named.leaf_on (g z)
    named_there (NamesSpell.a_node {b} {ns} {ne} {from} {to} {inner} {rest} p r) e = go (same (name_of t ns ne) (decode w)) refl e (λ z. named_there r z)
      where
        go : (c : Bool) → same (name_of t ns ne) (decode w) ≡ c → cond c true (named t (decode w) rest) ≡ true → (named t (decode w) rest ≡ true → Named t codes rest)
            → Named t codes (node b ns ne from to inner rest)
        go true q z g = Named.node_here (same_name p q)
        go false q z g = Named.node_on (g z)

  pub named_known : {i e : ℕ} {codes : List ℕ} {f : Forest} → Spells (part_of t i e) codes → NamesSpell t f → named t (name_of t i e) f ≡ true → KnownName t i e f
  named_known {codes = codes} s n e = record { codes = codes; spells = s; there = named_there s n e }
