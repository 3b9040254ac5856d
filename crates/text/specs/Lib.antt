-- What a JSON text means, and then how that is computed (docs/RULES.md, 3 and 4). No file uses a later one.
--
-- One text walked through: {"a":[1]}, nine bytes; places count from 0.
--     spelling    the name's inside, from place 2 up to 3, spells one code point, U+0061
--     grammar     json-text: no white space, the value, no white space. The value: full curly, of one member "a" : value;
--                 that value: full square, of one element; that element: simple numeral, the digit 1
--     tree        node curly, no name, 0 to 9; inside it node square, name 2 to 3, 5 to 8; inside that leaf 4 (a number), no name, 6 to 7
--     seats       the object: inside 0 containers, after 0 values; the array: inside 1, after 1; the number: inside 2, after 2
--     rows        kind, name start, name end, value start, value end, values below, parent, next sibling:  7 0 0 0 9 2 0 0,  6 2 3 5 8 1 0 0,  4 0 0 6 7 0 1 0
--     accepted    depth 2, values 3: with a limit of 1 on the depth the first fault is 5 at place 5, with one of 2 on the values 6 at place 6
--     a fault     without its last brace the text has the fault 2 at place 8, its length: the eight bytes begin a text, and are none
--     document    object of member a, written "a", whose value is array of an entry without a name, scalar 4 with the token 1

-- limits and bytes, and the refusal sheet
pub mod Limits
pub mod Text
pub mod Sheet
-- what a text means, without a reader: characters, the grammar, and the tree of values
pub mod Utf8
pub mod Spelling
pub mod Abnf
pub mod Forest
pub mod Grammar
pub mod Rfc
-- where values stand, what is accepted, and what is refused
pub mod Seats
pub mod Placed
pub mod Meaning
pub mod Broken
pub mod Fault
-- documents, and what their names spell
pub mod Document
pub mod Distinct
pub mod Labels
-- how strings are computed, and what document a text says: a string's content is what is computed of it
pub mod Chars
pub mod Strings
pub mod Telling
-- how the rest is computed: tokens, the rows of a tree, values, whole texts, limits with fewer values, the document of a text
pub mod Tokens
pub mod Tree
pub mod Reader
pub mod Whole
pub mod Fewer
pub mod Doc
-- what the layers above rely on: the rows in a table and how they name each other, the first of some values, the promise
pub mod Words
pub mod Standing
pub mod Kin
pub mod Firsts
pub mod Promised
-- documents that are the same
pub mod Sameness
-- documents as texts
pub mod Writing
pub mod Writable
