-- The rules paper's specimens, those marked (P) and some more, on whole texts and whole cards, as one statement over a list of cases: for each call of a service
-- the three numbers of the answer, the whole table and the whole output. Each line of the refusal sheet stands here at least once.
-- Assumes nothing.
use Rattle.std.specs.Prelude.{ℕ, zero, suc, ◌+◌, ◌-◌, ◌*◌, ◌≡◌, refl, List, [], ◌∷◌, ◌++◌, map, true, replicate}
use Prim.Native.String.{String}
use Rattle.laws.specs.Tests.{every, any_mark, all_marks, adjacent}
use Rattle.laws.specs.Lists.{filled, part_of}
use Rattle.laws.specs.Scan.{scan}
use Rattle.laws.specs.Order.{order_of}
use Rattle.text.specs.Limits.{Limits, row_words, base}
use Rattle.text.specs.Text.{bytes}
use Rattle.text.specs.Chars.{digit_of, hex4_of, digit_at, hex4_at, checked_at, tail_of, seq2, seq3, seq4, tail_at, raw_at, letter_of, low_at, pair_at, unit_at, on_hex, escape_at, step_by}
use Rattle.text.specs.Strings.{string_end, piece_by, decode_from}
use Rattle.text.specs.Utf8.{conts, utf8}
use Rattle.text.specs.Tokens.{run_end, word_at, digits_at, minus_end, int_at, frac_at, sign_end, exp_at, number_at, kind_by, token_at}
use Rattle.text.specs.Tree.{size, rows_of, starts_of, join}
use Rattle.text.specs.Reader.{scalar_with, scalar_at, close_of, container, deep, value_with, after_item, items_from, inside_of, named, colon_at, member_with, member_of, value_at, elements_at, members_at, array_at, object_at}
use Rattle.text.specs.Sheet.{numbers, refused}
use Rattle.text.specs.Whole.{end_of, read_of, fit_of, whole_of, sheet_of, table_of}
use Rattle.text.specs.Doc.{members_of, doc_of, count_of, count_all}
use Rattle.contact.specs.Schema.{types, record_of, type_in}
use Rattle.contact.specs.Values.{id_byte, is_id, value_from, is_count}
use Rattle.contact.specs.Dates.{month_lengths, is_leap, days_of, is_day, shaped, fraction_ends, ends, in_range, is_time}
use Rattle.contact.specs.Rules.{present, is_string, is_separator, marks_of, any_counts, badly_separated, breaks_any}
use Rattle.contact.specs.Judge.{is_of, lacking, row_number, breach_of, breach_among}
use Rattle.contact.specs.Verdict.{refused_fault, refused_card, fault_of, by_breach, judged_read, judged_of, sheet_of_judged, table_of_judged, paper_of_verdict}
use Rattle.contact.specs.Faults.{fault_in}
use Rattle.contact.specs.Places.{inside_named, quote_of, key_place}
use Rattle.contact.specs.Localize.{refused_local, by_judge, by_room, by_fault, by_entries, in_patch, with_patch, localized_doc, localized_judged, localized_of, sheet_of_outcome, table_of_outcome, output_of_outcome, answer_of_outcome, paper_of_localized}
use Rattle.contact.specs.Services.{Call, read, judge, localize, words_of, room_of, Left, leaves, served}

-- ---- cases

-- a call under limits, and what it leaves
pub record Case : Type 0 where
  pub limits : Limits
  pub call : Call
  pub left : Left

-- what the definitions say of a case's call
unfoldable pub worked : Case → Case
worked c = record { limits = c.limits; call = c.call; left = served c.limits c.call }

-- accepted: the row count and the bytes written, the rows and the bytes; and zero after them
abbrev accepted : Call → (count written : ℕ) → (rows output : List ℕ) → Case
accepted c count written rows output =
    record { limits = base; call = c; left = leaves (numbers 0 count written) (filled (words_of c) rows) (filled (room_of c) output) }

-- refused: the number and the second number; and zero alone
abbrev refused_under : Limits → Call → (number second : ℕ) → Case
refused_under L c number second = record { limits = L; call = c; left = leaves (numbers number second 0) (replicate (words_of c) 0) (replicate (room_of c) 0) }

-- refused under the limits of docs/RULES.md, 3.1
abbrev refused_at : Call → (number second : ℕ) → Case
refused_at = refused_under base

-- small limits, so that a short text is over them: 9 bytes, 2 open at once, 3 values
abbrev tight : Limits
tight = record { bytes = 9; depth = 2; values = 3; unique = true }

-- ---- texts

-- a card with more members
abbrev with : List ℕ → List ℕ
with more = bytes "{\"@type\":\"Card\",\"version\":\"1.0\",\"uid\":\"u1\"" ++ more ++ bytes "}"

-- a card with an EmailAddress of that `pref`
abbrev with_pref : String → List ℕ
with_pref p = with (bytes ",\"emails\":{\"e1\":{\"address\":\"a\",\"pref\":" ++ bytes p ++ bytes "}}")

-- a card with an Address under that Id
abbrev with_id : List ℕ → List ℕ
with_id id = with (bytes ",\"addresses\":{\"" ++ id ++ bytes "\":{}}")

-- a card with that `created`
abbrev created : String → List ℕ
created time = with (bytes ",\"created\":\"" ++ bytes time ++ bytes "\"")

-- a member `name` with those members inside
abbrev name : String → List ℕ
name inside = bytes ",\"name\":{" ++ bytes inside ++ bytes "}"

-- a card with more members and a PatchObject for `de`
abbrev patched : List ℕ → String → List ℕ
patched more patch = with (more ++ bytes ",\"localizations\":{\"de\":{" ++ bytes patch ++ bytes "}}")

-- judged with a table of 8 rows and 2 words
abbrev judging : List ℕ → Call
judging text = judge text (8 * row_words + 2)

-- localized for `de` with a table of 16 rows and 4 words and an output of 99 bytes
abbrev localizing : List ℕ → Call
localizing text = localize text (bytes "de") (16 * row_words + 4) 99

-- ---- rows

-- the eight words of a row
abbrev row : (kind name_starts name_ends start end below parent next : ℕ) → List ℕ
row kind name_starts name_ends start end below parent next = kind ∷ name_starts ∷ name_ends ∷ start ∷ end ∷ below ∷ parent ∷ next ∷ []

-- those of a card with more members, of which the last ends before `end`
abbrev rows_of_card : (end below : ℕ) → List ℕ → List ℕ
rows_of_card end below more = row 7 0 0 0 end below 0 0 ++ row 5 2 7 9 15 0 0 2 ++ row 5 17 24 26 31 0 0 3 ++ row 5 33 36 38 42 0 0 4 ++ more

-- the rows of `with_pref`, where the number ends before `end`
abbrev pref_rows : (end : ℕ) → List ℕ
pref_rows end = rows_of_card (end + 3) 7 (row 7 44 50 52 (end + 2) 3 0 0 ++ row 7 54 56 58 (end + 1) 2 4 0 ++ row 5 60 67 69 72 0 5 7 ++ row 4 74 78 80 end 0 5 0)

-- the rows of so many arrays, one inside the other, the first at a place, where so many stand around it
unfoldable pub nested_rows : (count at : ℕ) → List ℕ
nested_rows zero at = []
nested_rows (suc n) at = row 6 0 0 at (at + 2 * n + 2) n (at - 1) 0 ++ nested_rows n (at + 1)

-- ---- the cases

-- each case after what it shows
unfoldable pub cases : List Case
cases =
    -- (P) the empty text: 2 at 0
    refused_at (read [] (2 * row_words)) 2 0
    -- (P) a name again, written with an escape: 4 at 7; also where the table has no row
    ∷ refused_at (read (bytes "{\"a\":1,\"\\u0061\":2}") (3 * row_words)) 4 7
    ∷ refused_at (read (bytes "{\"a\":1,\"\\u0061\":2}") 0) 4 7
    -- (P) a lone surrogate: 3 at 1
    ∷ refused_at (read (bytes "\"\\uD800\"") row_words) 3 1
    -- (P) three rows: parents 0, 0 and 1, and no siblings
    ∷ accepted (read (bytes "{\"a\":[1]}") (3 * row_words + 2)) 3 0 (row 7 0 0 0 9 2 0 0 ++ row 6 2 3 5 8 1 0 0 ++ row 4 0 0 6 7 0 1 0) []
    -- (P) an element's next sibling; an object in an object before a later member, whose next sibling stands behind what is below it
    ∷ accepted (read (bytes "[1,2]") (3 * row_words)) 3 0 (row 6 0 0 0 5 2 0 0 ++ row 4 0 0 1 2 0 0 2 ++ row 4 0 0 3 4 0 0 0) []
    ∷ accepted (read (bytes "{\"a\":{\"b\":{\"c\":1}},\"d\":2}") (5 * row_words)) 5 0
    (row 7 0 0 0 25 4 0 0 ++ row 7 2 3 5 18 2 0 4 ++ row 7 7 8 10 17 1 1 0 ++ row 4 12 13 15 16 0 2 0 ++ row 4 20 21 23 24 0 0 0) []
    -- (P) tables of 0 and 7 words have no row, one of 8 has one, one of 15 has no second
    ∷ refused_at (read (bytes "1") 0) 7 1
    ∷ refused_at (read (bytes "1") 7) 7 1
    ∷ accepted (read (bytes "1") 8) 1 0 (row 4 0 0 0 1 0 0 0) []
    ∷ accepted (read (bytes "1") 15) 1 0 (row 4 0 0 0 1 0 0 0) []
    ∷ refused_at (read (bytes "[1]") 15) 7 2
    -- a table without a third whole row: 7, three needed
    ∷ refused_at (read (bytes "{\"a\":[1]}") (3 * row_words - 1)) 7 3
    ∷ refused_at (read (bytes "{\"a\":[1]}") 0) 7 3
    -- 64 arrays, one inside the other, pass; the 65th is 5
    ∷ accepted (read (replicate 64 91 ++ replicate 64 93) (64 * row_words)) 64 0 (nested_rows 64 0) []
    ∷ refused_at (read (replicate 65 91) row_words) 5 64
    -- small limits: 1, 5 and 6 one past each, and 5 before 6 at one place
    ∷ refused_under tight (read (bytes "[1, 22, 3]") (10 * row_words)) 1 0
    ∷ refused_under tight (read (bytes "[[[]]]") (10 * row_words)) 5 2
    ∷ refused_under tight (read (bytes "[1,2,3]") (10 * row_words)) 6 5
    ∷ refused_under tight (read (bytes "[[1,[]]]") (10 * row_words)) 5 4
    -- (P) pref 1 and 100 pass; 0, 101 and 1.0 are 13
    ∷ accepted (judging (with_pref "1")) 8 0 (pref_rows 81) []
    ∷ accepted (judging (with_pref "100")) 8 0 (pref_rows 83) []
    ∷ refused_at (judging (with_pref "0")) 13 80
    ∷ refused_at (judging (with_pref "101")) 13 80
    ∷ refused_at (judging (with_pref "1.0")) 13 80
    -- (P) an Id of 255 bytes passes, 256 and empty are 13
    ∷ accepted (judging (with_id (replicate 255 97))) 6 0 (rows_of_card 318 5 (row 7 44 53 55 317 1 0 0 ++ row 7 57 312 314 316 0 4 0)) []
    ∷ refused_at (judging (with_id (replicate 256 97))) 13 315
    ∷ refused_at (judging (with_id [])) 13 59
    -- an Id is decoded before it is judged
    ∷ accepted (judging (with_id (bytes "\\u0061"))) 6 0 (rows_of_card 69 5 (row 7 44 53 55 68 1 0 0 ++ row 7 57 63 65 67 0 4 0)) []
    -- (P) a fraction passes unless it ends in 0
    ∷ accepted (judging (created "2010-10-10T10:10:10.003Z")) 5 0 (rows_of_card 80 4 (row 5 44 51 53 79 0 0 0)) []
    ∷ refused_at (judging (created "2010-10-10T10:10:10.000Z")) 13 53
    -- (P) 2000-02-29 is a day, 1900-02-29 isn't
    ∷ accepted (judging (created "2000-02-29T00:00:00Z")) 5 0 (rows_of_card 76 4 (row 5 44 51 53 75 0 0 0)) []
    ∷ refused_at (judging (created "1900-02-29T00:00:00Z")) 13 53
    -- a wrong kind; a mandatory member that is missing; a rule between members
    ∷ refused_at (judging (with (bytes ",\"kind\":5"))) 11 50
    ∷ refused_at (judging (bytes " {}")) 12 1
    ∷ refused_at (judging (with (name ""))) 14 50
    -- `members` needs the kind "group"; a separator needs true `isOrdered`
    ∷ accepted (judging (with (bytes ",\"kind\":\"group\",\"members\":{}"))) 6 0 (rows_of_card 71 5 (row 5 44 48 50 57 0 0 5 ++ row 7 59 66 68 70 0 0 0)) []
    ∷ refused_at (judging (with (bytes ",\"members\":{}"))) 14 0
    ∷ refused_at (judge (with (name "\"components\":[{\"kind\":\"given\",\"value\":\"A\"},{\"kind\":\"separator\",\"value\":\" \"}]")) (12 * row_words)) 14 50
    -- the place is that of the offending value, behind an object with values of its own
    ∷ refused_at (judging (with (name "\"full\":\"A\"" ++ bytes ",\"kind\":5"))) 11 70
    -- `defaultSeparator` without true `isOrdered`
    ∷ refused_at (judging (with (name "\"full\":\"A\",\"defaultSeparator\":\" \""))) 14 50
    -- each other rule between members broken alone, of a Name and of an Address
    ∷ refused_at (judge (with (name "\"isOrdered\":true,\"components\":[{\"kind\":\"separator\",\"value\":\" \"}]")) (10 * row_words)) 14 50
    ∷ refused_at (judge (with (name "\"isOrdered\":true,\"components\":[{\"kind\":\"given\",\"value\":\"A\"},{\"kind\":\"separator\",\"value\":\" \"},{\"kind\":\"separator\",\"value\":\"-\"}]")) (16 * row_words)) 14 50
    ∷ refused_at (judge (with (name "\"components\":[{\"kind\":\"given\",\"value\":\"A\"}],\"defaultSeparator\":\" \"")) (10 * row_words)) 14 50
    ∷ refused_at (judging (with (name "\"full\":\"A\",\"isOrdered\":true,\"defaultSeparator\":\" \""))) 14 50
    ∷ refused_at (judge (with (bytes ",\"addresses\":{\"a\":{\"components\":[{\"kind\":\"separator\",\"value\":\" \"}]}}")) (10 * row_words)) 14 60
    ∷ refused_at (judging (with (bytes ",\"addresses\":{\"a\":{\"components\":[],\"defaultSeparator\":\" \"}}"))) 14 60
    ∷ refused_at (judging (with (bytes ",\"addresses\":{\"a\":{\"isOrdered\":true,\"defaultSeparator\":\" \"}}"))) 14 60
    -- the entry that isn't a separator isn't asked of an Address (house ruling); two separators in a row are 14 there too
    ∷ accepted (judging (with (bytes ",\"addresses\":{\"a\":{\"components\":[]}}"))) 7 0
    (rows_of_card 79 6 (row 7 44 53 55 78 2 0 0 ++ row 7 57 58 60 77 1 4 0 ++ row 6 62 72 74 76 0 5 0)) []
    ∷ refused_at (judge (with (bytes ",\"addresses\":{\"a\":{\"isOrdered\":true,\"components\":[{\"kind\":\"separator\",\"value\":\" \"},{\"kind\":\"separator\",\"value\":\"-\"}]}}")) (14 * row_words)) 14 60
    -- more of the wrong kind, in an object of each type of the table; null fits none that is listed
    ∷ refused_at (judging (with (bytes ",\"language\":null"))) 11 54
    ∷ refused_at (judging (with (bytes ",\"localizations\":{\"de\":1}"))) 11 65
    ∷ refused_at (judging (with (name "\"full\":\"A\",\"phoneticScript\":1"))) 11 79
    ∷ refused_at (judging (with (name "\"full\":\"A\",\"isOrdered\":\"true\""))) 11 74
    ∷ refused_at (judging (with (name "\"full\":\"A\",\"sortAs\":{\"given\":1}"))) 11 80
    ∷ refused_at (judging (with (name "\"full\":\"A\",\"components\":{}"))) 11 75
    ∷ refused_at (judge (with (name "\"components\":[{\"kind\":\"given\",\"value\":\"A\",\"phonetic\":1}]")) (10 * row_words)) 11 104
    ∷ refused_at (judging (with (bytes ",\"addresses\":{\"a\":{\"countryCode\":1}}"))) 11 75
    ∷ refused_at (judge (with (bytes ",\"addresses\":{\"a\":{\"components\":[{\"value\":\"A\",\"kind\":true}]}}")) (10 * row_words)) 11 95
    ∷ refused_at (judging (with (bytes ",\"emails\":{\"e\":{\"address\":\"a\",\"contexts\":[]}}"))) 11 83
    ∷ refused_at (judging (with (bytes ",\"phones\":{\"p\":{\"number\":\"1\",\"features\":\"voice\"}}"))) 11 82
    -- no such language; a loose `~`; a pointer into `localizations`: 22 and 23 at the key's opening quote
    ∷ refused_at (localizing (with [])) 21 0
    ∷ refused_at (localizing (patched [] "\"~2\":1")) 22 66
    ∷ refused_at (localizing (patched [] "\"localizations/de\":null")) 23 66
    -- (P) keys `emails/e1` and `emails/e10` don't clash
    ∷ accepted (localizing (patched (bytes ",\"emails\":{\"e1\":{\"address\":\"a\"},\"e10\":{\"address\":\"b\"}}") "\"emails/e1\":null,\"emails/e10\":null")) 5 55
    (rows_of_card 55 4 (row 7 44 50 52 54 0 0 0)) (with (bytes ",\"emails\":{}"))
    -- (P) `name` and `name/full` are 24; whichever comes first, at `name`, the smaller key of the two
    ∷ refused_at (localizing (patched (name "\"full\":\"Ann\"") "\"name\":null,\"name/full\":\"Anne\"")) 24 88
    ∷ refused_at (localizing (patched (name "\"full\":\"Ann\"") "\"name/full\":\"Anne\",\"name\":null")) 24 107
    -- of `a`, `a!` and `a/b` the first and the last clash; of all keys in pairs `b!` is the smallest, though not of the first pair
    ∷ refused_at (localizing (patched [] "\"a/b\":1,\"a!\":2,\"a\":3")) 24 81
    ∷ refused_at (localizing (patched [] "\"b/c\":1,\"b/c/d\":2,\"b!/x\":3,\"b!\":4")) 24 93
    -- (P) `name/components/0` is 25 where components is an array
    ∷ refused_at (localizing (patched (name "\"components\":[{\"kind\":\"given\",\"value\":\"Ann\"}]") "\"name/components/0\":1")) 25 121
    -- 25 before 26, whichever entry comes first: the place moves with the key
    ∷ refused_at (localizing (patched (name "\"components\":[{\"kind\":\"given\",\"value\":\"Ann\"}]") "\"nope/x\":1,\"name/components/0\":1")) 25 132
    ∷ refused_at (localizing (patched (name "\"components\":[{\"kind\":\"given\",\"value\":\"Ann\"}]") "\"name/components/0\":1,\"nope/x\":1")) 25 121
    -- (P) `name/full/x` is 26 where full is a string
    ∷ refused_at (localizing (patched (name "\"full\":\"Ann\"") "\"name/full/x\":1")) 26 88
    -- the smallest number first, then the smallest key: 22 at `~!`, behind keys that break 24, 23 and 22
    ∷ refused_at (localizing (patched [] "\"a\":1,\"a/b\":2,\"localizations\":3,\"~2\":4,\"~!\":5")) 22 105
    -- keys are compared decoded, and the place is that of the quote before the key as it is written
    ∷ refused_at (localizing (patched [] "\"b/b\":1, \"\\u0061/b\":2")) 26 75
    ∷ refused_at (localizing (patched [] "\"\\u007A/b\":1,\"b/b\":2")) 26 79
    -- and before `~0` and `~1` are undone: `0/y` comes before `~1x/y`
    ∷ refused_at (localizing (patched [] "\"~1x/y\":1,\"0/y\":2")) 26 76
    -- (P) null on `uid` is 28 with 12
    ∷ refused_at (localizing (patched [] "\"uid\":null")) 28 12
    -- an output that is one byte short is 27, also where more room would give 28
    ∷ refused_at (localize (patched (name "\"full\":\"Ann\"") "") (bytes "de") (16 * row_words + 4) 64) 27 65
    ∷ refused_at (localize (patched [] "\"uid\":null") (bytes "de") (16 * row_words + 4) 31) 27 32
    -- an empty PatchObject gives the card without localizations
    ∷ accepted (localizing (patched (name "\"full\":\"Ann\"") "")) 6 65 (rows_of_card 65 5 (row 7 44 48 50 64 1 0 0 ++ row 5 52 56 58 63 0 4 0)) (with (name "\"full\":\"Ann\""))
    -- an output just long enough is long enough
    ∷ accepted (localize (patched (name "\"full\":\"Ann\"") "") (bytes "de") (16 * row_words + 4) 65) 6 65 (rows_of_card 65 5 (row 7 44 48 50 64 1 0 0 ++ row 5 52 56 58 63 0 4 0))
    (with (name "\"full\":\"Ann\""))
    -- a replaced member keeps its name as it is written
    ∷ accepted (localizing (patched (bytes ",\"\\u0061\":1") "\"a\":2")) 5 54 (rows_of_card 54 4 (row 4 44 50 52 53 0 0 0)) (with (bytes ",\"\\u0061\":2"))
    -- a name with just `full` and `components`, null on both: 28 with 14
    ∷ refused_at (localizing (patched (name "\"full\":\"Ann\",\"components\":[{\"kind\":\"given\",\"value\":\"Ann\"}]") "\"name/full\":null,\"name/components\":null")) 28 14
    -- `~01` is `~1`, not `/`
    ∷ accepted (localizing (patched [] "\"~01\":1")) 5 50 (rows_of_card 50 4 (row 4 44 46 48 49 0 0 0)) (with (bytes ",\"~1\":1"))
    -- added names in ascending order of bytes, a control first and a name before its longer ones; the control is spelled with small digits
    ∷ accepted (localizing (patched [] "\"a!\":1,\"a\":2,\"\\u001F\":3")) 7 67
    (rows_of_card 67 6 (row 4 44 50 52 53 0 0 5 ++ row 4 55 56 58 59 0 0 6 ++ row 4 61 63 65 66 0 0 0)) (with (bytes ",\"\\u001f\":3,\"a\":2,\"a!\":1"))
    -- the whole example, for a table of twelve rows and an output as long as the card text
    ∷ accepted
    (localize
    (bytes "{\"@type\":\"Card\",\"version\":\"1.0\",\"uid\":\"u1\",\"name\":{\"full\":\"Ann\"},\"localizations\":{\"de\":{\"ex.com:b\":2,\"name/full\":\"Anne\",\"ex.com:a\": 1}}}")
    (bytes "de") (12 * row_words) 136)
    8 92 (rows_of_card 92 7 (row 7 44 48 50 65 1 0 6 ++ row 5 52 56 58 64 0 4 0 ++ row 4 67 75 77 78 0 0 7 ++ row 4 80 88 90 91 0 0 0))
    (bytes "{\"@type\":\"Card\",\"version\":\"1.0\",\"uid\":\"u1\",\"name\":{\"full\":\"Anne\"},\"ex.com:a\":1,\"ex.com:b\":2}")
    ∷ []

-- what the definitions say of each call is what its case says: all cases, by computation
pub specimens : map worked cases ≡ cases
unfolding worked cases nested_rows served part_of scan order_of digit_of hex4_of digit_at hex4_at checked_at tail_of seq2 seq3 seq4 tail_at raw_at letter_of low_at pair_at unit_at on_hex escape_at step_by string_end conts utf8 piece_by decode_from run_end word_at digits_at minus_end int_at frac_at sign_end exp_at number_at kind_by token_at size rows_of starts_of join scalar_with scalar_at close_of container deep value_with after_item items_from inside_of named colon_at member_with member_of value_at elements_at members_at array_at object_at refused end_of read_of fit_of whole_of sheet_of table_of members_of doc_of count_of count_all types record_of type_in every id_byte is_id value_from is_count month_lengths is_leap days_of is_day shaped fraction_ends ends in_range is_time present is_string is_separator marks_of any_mark all_marks adjacent any_counts badly_separated breaks_any is_of lacking row_number breach_of breach_among refused_fault refused_card fault_of by_breach judged_read judged_of sheet_of_judged paper_of_verdict table_of_judged refused_local by_judge by_room fault_in inside_named quote_of key_place by_fault by_entries in_patch with_patch localized_doc localized_judged localized_of sheet_of_outcome paper_of_localized answer_of_outcome table_of_outcome output_of_outcome
specimens = refl
