-- The words of the catalog: the properties' spellings and the types' names, by computation over all of them. Assumes nothing.
use mathlib.Core.Path.{◌≡◌, refl, sym, ap, ◌∙◌}
use mathlib.Core.List.{List, [], ◌∷◌, ◌++◌, map}
use mathlib.Core.Bool.{Bool, true, false, ◌||◌}
use Prim.Native.Nat.{ℕ, zero, suc, ◌+◌, ◌*◌, ◌/◌, ◌<◌, ◌≤◌}
use native.Mathlib.Omega.{arith}
use lib.ListN.{length, get_or, take, drop, get_or-map}
use lib.Dec.{leb, eqb}
use borrow.Author.Tests.{leb-true, eqb-false}
use Rattle.laws.specs.Order.{order_of, same}
use Rattle.laws.proofs.Bools.{or_false}
use Rattle.laws.proofs.Orders.{same_eq}
use Rattle.laws.proofs.Places.{drop_byte}
use Rattle.laws.proofs.Tables.{below, below_at_lem}
use Rattle.text.specs.Text.{bytes, byte_at}
use Rattle.text.specs.Strings.{name_of}
use Rattle.text.specs.Doc.{Name}
use Rattle.contact.specs.Schema.{ObjectType, Known, TypeRecord, types, record_of, own_name}
use Rattle.card.specs.Catalog.{name_width, gathered, type_count, name_place, lines, no_line, count, all_rules, rule_count, rule_at, rule_words, each, type_words_from, table_words, Lent}
use Rattle.card.proofs.Known.Beginnings.{name_apart}
use Rattle.card.proofs.Known.OwnParts.{place_within, place_record}

pub words_length : length table_words ≡ (type_words_from + type_count) * name_width
unfolding table_words lines gathered types
words_length = refl

-- ---- names of properties

abbrev spellings : List Name
spellings = map (λ (k : Known). k.spelling) lines

-- a name of that size stands at its place
right : ℕ → Bool
right i = same (take (length (get_or spellings i [])) (drop (i * name_width) table_words)) (get_or spellings i [])

all_right : below right count ≡ true
unfolding right order_of table_words lines gathered types
all_right = refl

short : ℕ → Bool
short i = leb (length (get_or spellings i [])) name_width

all_short : below short count ≡ true
unfolding short lines gathered types
all_short = refl

-- none is empty
some : ℕ → Bool
some i = leb 1 (length (get_or spellings i []))

all_some : below some count ≡ true
unfolding some lines gathered types
all_some = refl

-- ---- names of object types

-- how long they are, and the empty one of what is no type
abbrev pub name_sizes : List ℕ
name_sizes = map (λ (r : TypeRecord). length (bytes r.own)) types ++ (0 ∷ [])

called : ℕ → Bool
called p = same (take (get_or name_sizes p 0) (drop ((type_words_from + p) * name_width) table_words)) (bytes (own_name p))

all_called : below called (type_count + 1) ≡ true
unfolding called order_of record_of table_words lines gathered types
all_called = refl

pub type_named : (o : ObjectType) → take (get_or name_sizes (name_place o) 0) (drop ((type_words_from + name_place o) * name_width) table_words) ≡ bytes (own_name o)
unfolding called
type_named o =
    same_eq (take (get_or name_sizes (name_place o) 0) (drop ((type_words_from + name_place o) * name_width) table_words)) (bytes (own_name (name_place o)))
    (below_at_lem called (type_count + 1) all_called (name_place o) (omega (arith, place_within o)))
    ∙ ap (λ (r : TypeRecord). bytes r.own) (place_record o)

within : ℕ → Bool
within p = leb ((type_words_from + p) * name_width + get_or name_sizes p 0) ((type_words_from + type_count) * name_width)

all_within : below within (type_count + 1) ≡ true
unfolding within types
all_within = refl

pub type_within : (p : ℕ) → p ≤ type_count → (type_words_from + p) * name_width + get_or name_sizes p 0 ≤ (type_words_from + type_count) * name_width
unfolding within
type_within p h =
    leb-true ((type_words_from + p) * name_width + get_or name_sizes p 0) ((type_words_from + type_count) * name_width)
    (below_at_lem within (type_count + 1) all_within p (omega (arith, h)))

-- ---- what is lent

begins : (n : ℕ) (l : List ℕ) (i : ℕ) → 1 ≤ n → i < length l → (xs : List ℕ) × (take n (drop i l) ≡ byte_at l i ∷ xs)
begins zero l i h k = absurd (omega arith)
begins (suc n) l i h k = (take n (drop (i + 1) l), rw (drop_byte l i k))

module _ {words numbers : List ℕ} (l : Lent words numbers) where
  pub lent_length : length words ≡ (type_words_from + type_count) * name_width
  lent_length = ap length l.words_are ∙ words_length

  module _ (i : ℕ) (h : i < count) where
    spelling_is : get_or spellings i [] ≡ (get_or lines i no_line).spelling
    spelling_is = get_or-map (λ (k : Known). k.spelling) lines i no_line

    -- a property's name, by its number
    pub lent_spelled : take (get_or numbers i 0 / 65536) (drop (i * name_width) words) ≡ (get_or lines i no_line).spelling
    unfolding right
    lent_spelled =
        rw ((l.numbers_are.code i h).size, l.words_are)
        (rw spelling_is at (same_eq (take (length (get_or spellings i [])) (drop (i * name_width) table_words)) (get_or spellings i []) (below_at_lem right count all_right i h)))

    pub lent_short : get_or numbers i 0 / 65536 ≤ name_width
    unfolding short
    lent_short =
        rw (l.numbers_are.code i h).size (rw spelling_is at (leb-true (length (get_or spellings i [])) name_width (below_at_lem short count all_short i h)))

    lent_some : 1 ≤ get_or numbers i 0 / 65536
    unfolding some
    lent_some =
        rw (l.numbers_are.code i h).size (rw spelling_is at (leb-true 1 (length (get_or spellings i [])) (below_at_lem some count all_some i h)))

    -- it begins with the byte at its place
    lent_begins : (xs : List ℕ) × ((get_or lines i no_line).spelling ≡ byte_at words (i * name_width) ∷ xs)
    lent_begins =
        let (xs, e) = begins (get_or numbers i 0 / 65536) words (i * name_width) lent_some (omega (arith, lent_length)) in
        (xs, sym lent_spelled ∙ e)

    -- so no name is the property's that begins, as written, with another byte but a backslash
    pub lent_apart : (t : List ℕ) (s e : ℕ) → (eqb (byte_at t s) 92 || eqb (byte_at words (i * name_width)) (byte_at t s)) ≡ false
        → false ≡ same (name_of t s e) (get_or lines i no_line).spelling
    lent_apart t s e q =
        let b = byte_at t s in
        let x = byte_at words (i * name_width) in
        let (plain, apart) = or_false (eqb b 92) (eqb x b) q in
        rw lent_begins.1 (sym (name_apart x lent_begins.0 t s e (eqb-false b 92 plain) (λ z. eqb-false x b apart (sym z))))

-- ---- how many there are

pub lines_length : length lines ≡ count
unfolding lines gathered types
lines_length = refl

pub rules_length : length all_rules ≡ rule_count
unfolding all_rules gathered types
rules_length = refl

-- a rule has no more words than the code keeps for it
few : ℕ → Bool
few i = leb (length (rule_words (rule_at i))) each

all_few : below few rule_count ≡ true
unfolding few all_rules gathered types
all_few = refl

pub rule_few : (i : ℕ) → i < rule_count → length (rule_words (rule_at i)) ≤ each
unfolding few
rule_few i h = leb-true (length (rule_words (rule_at i))) each (below_at_lem few rule_count all_few i h)
