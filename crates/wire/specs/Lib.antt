-- Reading in pieces (docs/RULES.md, 9). The definitions in the order in which they are read: none uses a later one. In comments 01 is the rules paper, 02 the
-- change requests.
-- the measure: whole reading without 1, 4 and 7, and when a refusal is certain
pub mod Measure
-- the reader that keeps no text: inside a number, inside a string, between tokens
pub mod Figures
pub mod Inners
pub mod Machine
-- its state in machine words, which a caller keeps
pub mod Held
-- what is promised of it, and specimens
pub mod Promise
pub mod Service
pub mod Specimens
