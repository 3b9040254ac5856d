-- Reading and the grammar of RFC 8259 (specs/Grammar.antt): what is accepted (Accepted: `accepts`), where what is refused (Refused: `refuses`, `in_each`,
-- `too_long`), that a text of the grammar is refused for the first rule that a value of its own tree breaks (First: `tree_refuses`), and that the RFC's
-- own arrangement of white space has the same texts (Arrangement: `same_texts`); how many values so many bytes can be (Bytes: `values_bytes`). The way there:
--     Stands, Prefixes      bytes that stand in a text, and texts that are like it as far as a place
--     Exact                 a token's reader and its language agree, for each way of ABNF to build a rule
--     Number, Quotes, Words     so numbers, strings, white space, literals are read as their rules say
--     Trees, Names, Wrong   where values stand in a tree, names that spell the same, and what is wrong with a value
--     Sound, Told, Within   what an answer says, by induction on the definition: what is read derives, with its tree, and of what is refused the bytes
--                           before the place begin a text of the grammar
--     Meets, Follow         what derives is read, by induction on the derivation, as far as the text is like it, or is refused for what is wrong with it
--     Low, Calm             and nothing that is wrong before is passed over
--     Rules                 what is wrong in the words of reading and what breaks the rules of specs/Fault.antt is the same
--     Wholes                whole texts
-- Assumes nothing.
pub mod Stands
pub mod Exact
pub mod Number
pub mod Quotes
pub mod Words
pub mod Trees
pub mod Names
pub mod Wrong
pub mod Sound
pub mod Told
pub mod Within
pub mod Meets
pub mod Follow
pub mod Rules
pub mod Low
pub mod Calm
pub mod Prefixes
pub mod Arrangement
pub mod Wholes
pub mod Accepted
pub mod Refused
pub mod First
pub mod Bytes
