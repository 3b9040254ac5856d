-- Numbers are the catalog's, if their columns are: a law whose premises are closed by computation, where the code's list is made. Assumes nothing.
use mathlib.Core.Path.{◌≡◌, refl, sym, ap, ◌∙◌}
use mathlib.Core.List.{List, [], map}
use mathlib.Core.Bool.{Bool, true}
use Prim.Native.Nat.{ℕ, ◌+◌, ◌*◌, ◌/◌, ◌%◌, ◌<◌}
use lib.ListN.{length, get_or, take, drop, get_or-map}
use lib.Seq.{get_or-take}
use lib.Dec.{leb, eqb}
use borrow.Author.Tests.{leb-true, eqb-true}
use Rattle.laws.specs.Order.{same}
use Rattle.laws.proofs.Orders.{same_eq}
use Rattle.laws.proofs.Tables.{below, below_at_lem}
use Rattle.contact.specs.Schema.{Known, types}
use Rattle.card.specs.Types.{type_at}
use Rattle.card.specs.Catalog.{name_width, start_of, type_count, lines, no_line, count, rule_count, rule_at, shape_of, rule_words, each, type_words_from, table_words, line_starts, rule_starts, rules_from, rule_width, Numbers}

abbrev pub is_must : ℕ → Bool
is_must n = eqb (n / 32768 % 2) 1

abbrev pub size_in : ℕ → ℕ
size_in n = n / 65536

module _ (ns : List ℕ) where
  column : {B : Type 0} (f : ℕ → B) (g : Known → B) → f 0 ≡ g no_line → map f (take count ns) ≡ map g lines → (i : ℕ) → i < count
      → f (get_or ns i 0) ≡ g (get_or lines i no_line)
  column f g z e i h =
      ap f (sym (get_or-take count ns i 0 h)) ∙ sym (get_or-map f (take count ns) i 0) ∙ ap (λ xs. get_or xs i (f 0)) e
      ∙ ap (λ d. get_or (map g lines) i d) z ∙ get_or-map g lines i no_line

  -- tests at each start and each rule
  abbrev pub line_start : ℕ → Bool
  line_start o = eqb (get_or ns (line_starts + o) 0) (start_of (λ r. r.known) types o)

  abbrev pub rule_start : ℕ → Bool
  rule_start o = eqb (get_or ns (rule_starts + o) 0) (start_of (λ r. r.rules) types o)

  abbrev pub shaped : ℕ → Bool
  shaped i = eqb (get_or ns (rules_from + i * rule_width) 0) (shape_of (rule_at i))

  -- the number of word j of rule i; a test that it is within the words, and one that the word is the rule's
  abbrev pub word_in : (i j : ℕ) → ℕ
  word_in i j = get_or ns (rules_from + i * rule_width + 1 + j) 0

  abbrev pub fitting : (i j : ℕ) → Bool
  fitting i j = leb (word_in i j % 65536 * name_width + word_in i j / 65536) ((type_words_from + type_count) * name_width)

  abbrev pub worded : (i j : ℕ) → Bool
  worded i j = same (take (word_in i j / 65536) (drop (word_in i j % 65536 * name_width) table_words)) (get_or (rule_words (rule_at i)) j [])

  pub numbers_told : length ns ≡ rules_from + rule_count * rule_width
      → map size_in (take count ns) ≡ map (λ (k : Known). length k.spelling) lines
      → is_must 0 ≡ no_line.mandatory → map is_must (take count ns) ≡ map (λ (k : Known). k.mandatory) lines
      → type_at 0 ≡ no_line.type → map type_at (take count ns) ≡ map (λ (k : Known). k.type) lines
      → below line_start (type_count + 2) ≡ true → below rule_start (type_count + 2) ≡ true → below shaped rule_count ≡ true
      → below (λ i. below (fitting i) each) rule_count ≡ true → below (λ i. below (worded i) each) rule_count ≡ true
      → Numbers ns
  numbers_told long size z must y type line rule shape fit word =
      record {
        long = long;
        code = λ i h. record { size = column size_in (λ k. length k.spelling) refl size i h; must = column is_must (λ k. k.mandatory) z must i h; type = column type_at (λ k. k.type) y type i h };
        line_start_is = λ o h. eqb-true (get_or ns (line_starts + o) 0) (start_of (λ r. r.known) types o) (below_at_lem line_start (type_count + 2) line o h);
        rule_start_is = λ o h. eqb-true (get_or ns (rule_starts + o) 0) (start_of (λ r. r.rules) types o) (below_at_lem rule_start (type_count + 2) rule o h);
        shape = λ i h. eqb-true (get_or ns (rules_from + i * rule_width) 0) (shape_of (rule_at i)) (below_at_lem shaped rule_count shape i h);
        word = λ i h j k. record {
          fits = leb-true (word_in i j % 65536 * name_width + word_in i j / 65536) ((type_words_from + type_count) * name_width) (below_at_lem (fitting i) each (below_at_lem (λ n. below (fitting n) each) rule_count fit i h) j k);
          is = same_eq (take (word_in i j / 65536) (drop (word_in i j % 65536 * name_width) table_words)) (get_or (rule_words (rule_at i)) j []) (below_at_lem (worded i) each (below_at_lem (λ n. below (worded n) each) rule_count word i h) j k);
        };
      }
