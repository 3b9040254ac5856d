-- What the contracts of reading cite beside crate text: Cursors, Rows, Lookup, Names, Plain and Answers in public ones, the others inside the crate.
pub mod Cursors
pub mod Rows
pub mod Lookup
pub mod Names
pub mod Quoted
pub mod Repeats
pub mod Plain
pub mod Readers
pub mod Answers
