-- Facts that speak of no format: walks, places and parts of a list, runs, the outcomes of a test, the order of two runs of bytes, rules of a table, buffers
-- being cleared, sorting, and the earliest of places that repeats a label.
pub mod Scans
pub mod Places
pub mod Bounds
pub mod Splits
pub mod Picks
pub mod Branches
pub mod Orders
pub mod Tables
pub mod Outcomes
pub mod Parts
pub mod Decides
pub mod Tests
pub mod Bools
pub mod Sets
pub mod Sorting
pub mod Slices
pub mod Merging
pub mod Halving
pub mod Earliest
pub mod Searching
