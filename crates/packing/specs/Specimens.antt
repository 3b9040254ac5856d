-- Specimens as one statement over a list of cases: for each call the three numbers of the answer, the whole table and the whole output.
-- Assumes nothing.
use Rattle.std.specs.Prelude.{ℕ, zero, suc, ◌≡◌, refl, List, [], ◌∷◌, ◌++◌, map, true, replicate}
use Rattle.laws.specs.Lists.{filled, part_of}
use Rattle.laws.specs.Scan.{scan}
use Rattle.laws.specs.Order.{order_of}
use Rattle.text.specs.Limits.{Limits, base}
use Rattle.text.specs.Text.{bytes}
use Rattle.text.specs.Chars.{digit_of, hex4_of, digit_at, hex4_at, checked_at, tail_of, seq2, seq3, seq4, tail_at, raw_at, letter_of, low_at, pair_at, unit_at, on_hex, escape_at, step_by}
use Rattle.text.specs.Strings.{string_end, piece_by, decode_from}
use Rattle.text.specs.Utf8.{conts, utf8}
use Rattle.text.specs.Tokens.{run_end, word_at, digits_at, minus_end, int_at, frac_at, sign_end, exp_at, number_at, kind_by, token_at}
use Rattle.text.specs.Tree.{size, rows_of, join}
use Rattle.text.specs.Reader.{scalar_with, scalar_at, close_of, container, deep, value_with, after_item, items_from, inside_of, named, colon_at, member_with, member_of, value_at}
use Rattle.text.specs.Sheet.{numbers, refused, Left, leaves}
use Rattle.text.specs.Whole.{end_of, read_of, fit_of, whole_of}
use Rattle.text.specs.Doc.{members_of, doc_of, count_of, count_all}
use Rattle.packing.specs.Packed.{field_of, widest, widest_item}
use Rattle.packing.specs.Fields.{cut, text_from, is_number}
use Rattle.packing.specs.Unpacked.{simple_of, on_name, items_of, value_by, value_of, on_root, doc_in, distinctly, distinct_items, within, unpacked}
use Rattle.packing.specs.Services.{pack_read, pack_of, answer_of_stored, refused_packing, paper_of_packing, table_of_stored, output_of_stored, unpack_doc, unpack_of, answer_of_restored, paper_of_unpacking, output_of_restored, packed_by, unpacked_by}

-- ---- cases

-- a text, a table of so many words and an output of so many bytes; or bytes and an output
pub data Call : Type 0 where
  pack : (text : List ℕ) → (words room : ℕ) → Call
  unpack : (packing : List ℕ) → (room : ℕ) → Call

-- what the definitions say that a call leaves
unfoldable pub served : Limits → Call → Left
served L (pack text words room) = packed_by L text words room
served L (unpack packing room) = unpacked_by L packing room

-- a call under limits, and what it leaves
pub record Case : Type 0 where
  pub limits : Limits
  pub call : Call
  pub left : Left

-- what the definitions say of a case's call
unfoldable pub worked : Case → Case
worked c = record { limits = c.limits; call = c.call; left = served c.limits c.call }

-- the words of the lent table and the bytes of the lent output
abbrev words_of : Call → ℕ
words_of (pack text words room) = words
words_of (unpack packing room) = 0

abbrev room_of : Call → ℕ
room_of (pack text words room) = room
room_of (unpack packing room) = room

-- accepted: the number of values and the bytes written, the rows and the bytes; and zero after them
abbrev accepted : Call → (count written : ℕ) → (rows output : List ℕ) → Case
accepted c count written rows output =
    record { limits = base; call = c; left = leaves (numbers 0 count written) (filled (words_of c) rows) (filled (room_of c) output) }

-- refused: the number and the second number; and zero alone
abbrev refused_under : Limits → Call → (number second : ℕ) → Case
refused_under L c number second =
    record { limits = L; call = c; left = leaves (numbers number second 0) (replicate (words_of c) 0) (replicate (room_of c) 0) }

abbrev refused_at : Call → (number second : ℕ) → Case
refused_at = refused_under base

-- unpacked to a text, for an output of 12 bytes
abbrev gives : List ℕ → (count written : ℕ) → List ℕ → Case
gives p count written text = accepted (unpack p 12) count written [] text

-- 53, for an output of 12 bytes
abbrev bad : List ℕ → Case
bad p = refused_at (unpack p 12) 53 0

-- small limits: 9 bytes, 2 open at once, 3 values
abbrev tight : Limits
tight = record { bytes = 9; depth = 2; values = 3; unique = true }

-- a null, and a member's name of one letter
abbrev null : List ℕ
null = field_of 1 []

abbrev name_a : List ℕ
name_a = field_of 8 (bytes "a")

-- so many arrays, one inside the other
abbrev nested : ℕ → List ℕ
nested zero = []
nested (suc n) = field_of 6 (nested n)

-- the eight words of a row
abbrev row : (kind name_starts name_ends start end below parent next : ℕ) → List ℕ
row kind name_starts name_ends start end below parent next = kind ∷ name_starts ∷ name_ends ∷ start ∷ end ∷ below ∷ parent ∷ next ∷ []

-- ---- the cases

unfoldable pub cases : List Case
cases =
    -- 07 000B 08 0001 61 06 0004 04 0001 31
    accepted (pack (bytes "{\"a\":[1]}") 26 16) 3 14 (row 7 0 0 0 9 2 0 0 ++ row 6 2 3 5 8 1 0 0 ++ row 4 0 0 6 7 0 1 0)
    (7 ∷ 0 ∷ 11 ∷ 8 ∷ 0 ∷ 1 ∷ 97 ∷ 6 ∷ 0 ∷ 4 ∷ 4 ∷ 0 ∷ 1 ∷ 49 ∷ [])
    ∷ gives (7 ∷ 0 ∷ 11 ∷ 8 ∷ 0 ∷ 1 ∷ 97 ∷ 6 ∷ 0 ∷ 4 ∷ 4 ∷ 0 ∷ 1 ∷ 49 ∷ []) 3 9 (bytes "{\"a\":[1]}")
    -- an escape is decoded, and comes back raw
    ∷ accepted (pack (bytes "\"\\u00e9\"") 8 5) 1 5 (row 5 0 0 0 8 0 0 0) (5 ∷ 0 ∷ 2 ∷ 195 ∷ 169 ∷ [])
    ∷ gives (5 ∷ 0 ∷ 2 ∷ 195 ∷ 169 ∷ []) 1 4 (34 ∷ 195 ∷ 169 ∷ 34 ∷ [])
    -- an empty name, and a number as written
    ∷ accepted (pack (bytes "{\"\": -0.0}") 16 13) 2 13 (row 7 0 0 0 10 1 0 0 ++ row 4 2 2 5 9 0 0 0) (7 ∷ 0 ∷ 10 ∷ 8 ∷ 0 ∷ 0 ∷ 4 ∷ 0 ∷ 4 ∷ bytes "-0.0")
    -- false, true, and what holds nothing
    ∷ accepted (pack (bytes "[false,true,{}]") 32 12) 4 12 (row 6 0 0 0 15 3 0 0 ++ row 2 0 0 1 6 0 0 2 ++ row 3 0 0 7 11 0 0 3 ++ row 7 0 0 12 14 0 0 0)
    (6 ∷ 0 ∷ 9 ∷ 2 ∷ 0 ∷ 0 ∷ 3 ∷ 0 ∷ 0 ∷ 7 ∷ 0 ∷ 0 ∷ [])
    ∷ accepted (pack (bytes "null") 8 3) 1 3 (row 1 0 0 0 4 0 0 0) (1 ∷ 0 ∷ 0 ∷ [])
    -- a name's escapes are decoded, white space is left out, members keep their order; as text it comes back compact
    ∷ accepted (pack (bytes " {\"\\u0062\" :1, \"a\":2}") 24 19) 3 19 (row 7 0 0 1 21 2 0 0 ++ row 4 3 9 12 13 0 0 2 ++ row 4 16 17 19 20 0 0 0)
    (7 ∷ 0 ∷ 16 ∷ 8 ∷ 0 ∷ 1 ∷ 98 ∷ 4 ∷ 0 ∷ 1 ∷ 49 ∷ 8 ∷ 0 ∷ 1 ∷ 97 ∷ 4 ∷ 0 ∷ 1 ∷ 50 ∷ [])
    ∷ accepted (unpack (7 ∷ 0 ∷ 16 ∷ 8 ∷ 0 ∷ 1 ∷ 98 ∷ 4 ∷ 0 ∷ 1 ∷ 49 ∷ 8 ∷ 0 ∷ 1 ∷ 97 ∷ 4 ∷ 0 ∷ 1 ∷ 50 ∷ []) 14) 3 13 [] (bytes "{\"b\":1,\"a\":2}")
    -- reading's refusals, though there is no room either: 1 to 7
    ∷ refused_under tight (pack (bytes "12345678901") 8 0) 1 0
    ∷ refused_at (pack (bytes "[") 6 0) 2 1
    ∷ refused_at (pack (bytes "\"\\ud800\"") 8 0) 3 1
    ∷ refused_at (pack (bytes "{\"a\":1,\"a\":2}") 24 0) 4 7
    ∷ refused_under tight (pack (bytes "[[[1]]]") 24 0) 5 2
    ∷ refused_under tight (pack (bytes "[1,2,3]") 24 0) 6 5
    ∷ refused_at (pack (bytes "null") 7 0) 7 1
    -- then 52, with the bytes needed (where 51 begins: proofs/Edge.antt)
    ∷ refused_at (pack (bytes "null") 8 2) 52 3
    ∷ refused_at (pack (bytes "{\"a\":[1]}") 24 13) 52 14
    -- too few bytes, too many, content where there is none
    ∷ bad []
    ∷ bad (1 ∷ 0 ∷ [])
    ∷ bad (1 ∷ 0 ∷ 1 ∷ [])
    ∷ bad (1 ∷ 0 ∷ 0 ∷ 0 ∷ [])
    ∷ bad (field_of 3 (bytes "x"))
    ∷ bad (6 ∷ 0 ∷ 4 ∷ null)
    ∷ bad (6 ∷ 0 ∷ 2 ∷ null)
    -- tags that are none, and a name where none stands
    ∷ bad (field_of 0 [])
    ∷ bad (field_of 9 [])
    ∷ bad name_a
    ∷ bad (field_of 6 name_a)
    ∷ bad (field_of 7 null)
    ∷ bad (field_of 7 name_a)
    ∷ bad (field_of 7 (name_a ++ name_a))
    -- numbers
    ∷ bad (field_of 4 (bytes "01"))
    ∷ bad (field_of 4 [])
    ∷ bad (field_of 4 (bytes "1 "))
    ∷ gives (field_of 4 (bytes "-1.50E+2")) 1 8 (bytes "-1.50E+2")
    -- controls, quotes and backslashes are escaped, a slash and DEL stand raw
    ∷ gives (field_of 5 (1 ∷ [])) 1 8 (bytes "\"\\u0001\"")
    ∷ gives (field_of 5 (34 ∷ 92 ∷ 10 ∷ 47 ∷ 127 ∷ [])) 1 10 (34 ∷ 92 ∷ 34 ∷ 92 ∷ 92 ∷ 92 ∷ 110 ∷ 47 ∷ 127 ∷ 34 ∷ [])
    -- a noncharacter, a surrogate, an overlong form, a sequence that is cut; a name as well
    ∷ bad (field_of 5 (0xEF ∷ 0xBF ∷ 0xBE ∷ []))
    ∷ bad (field_of 5 (0xED ∷ 0xA0 ∷ 0x80 ∷ []))
    ∷ bad (field_of 5 (0xC0 ∷ 0x80 ∷ []))
    ∷ bad (field_of 5 (0xC3 ∷ []))
    ∷ bad (field_of 7 (field_of 8 (0xC3 ∷ []) ++ null))
    -- a name twice; in two objects it may stand
    ∷ bad (field_of 7 (name_a ++ null ++ name_a ++ null))
    ∷ accepted (unpack (field_of 7 (name_a ++ field_of 7 (name_a ++ field_of 6 []))) 14) 3 14 [] (bytes "{\"a\":{\"a\":[]}}")
    -- depth: 65 open at once; the limits of values and of the compact text
    ∷ bad (nested 65)
    ∷ accepted (unpack (nested 64) 128) 64 128 [] (replicate 64 91 ++ replicate 64 93)
    ∷ refused_under tight (unpack (nested 3) 64) 53 0
    ∷ refused_under tight (unpack (field_of 6 (field_of 4 (bytes "1") ++ field_of 4 (bytes "1") ++ field_of 4 (bytes "1"))) 64) 53 0
    ∷ refused_under tight (unpack (field_of 5 (1 ∷ 1 ∷ [])) 64) 53 0
    -- 53 comes before 52
    ∷ refused_at (unpack [] 0) 53 0
    ∷ refused_at (unpack null 3) 52 4
    ∷ []

pub specimens : map worked cases ≡ cases
unfolding worked cases served part_of scan order_of digit_of hex4_of digit_at hex4_at checked_at tail_of seq2 seq3 seq4 tail_at raw_at letter_of low_at pair_at unit_at on_hex escape_at step_by string_end conts utf8 piece_by decode_from run_end word_at digits_at minus_end int_at frac_at sign_end exp_at number_at kind_by token_at size rows_of join scalar_with scalar_at close_of container deep value_with after_item items_from inside_of named colon_at member_with member_of value_at refused end_of read_of fit_of whole_of members_of doc_of count_of count_all widest widest_item cut text_from is_number simple_of on_name items_of value_by value_of on_root doc_in distinctly distinct_items within unpacked pack_read pack_of answer_of_stored refused_packing paper_of_packing table_of_stored output_of_stored unpack_doc unpack_of answer_of_restored paper_of_unpacking output_of_restored packed_by unpacked_by
specimens = refl
