-- Entries listed by their rows: how they are listed, the conditions 22 to 26, their order and their places, clashes of neighbours, and where a name parts them.
-- Assumes nothing.
pub mod Filling
pub mod Neighbours
pub mod Kept
pub mod Conditions
pub mod Tails
pub mod Sorting
pub mod Orders
pub mod Places
pub mod Runs
pub mod Members
pub mod Marks
pub mod Steps
