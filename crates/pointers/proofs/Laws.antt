-- Keys as pointers, read byte by byte: parts, whole pointers and their order. Assumes nothing.
pub mod Parts
pub mod Glyphs
pub mod Pointers
pub mod Orders
pub mod Prefixes
pub mod Outcomes
pub mod Beginnings
pub mod Own
