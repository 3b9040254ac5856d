-- What the proofs of the functions share, and what a survey says of a packing.
--     Runs        the order of two runs of bytes, byte by byte
--     Beside      neighbours of one name among sorted places
--     Members     the places of names
--     Turns       the walk's own equation, without turns
--     Heads       a field that stands at a place
--     Named       an object's names and their places
--     Surveyed    the theorem that other crates cite: what a survey says of the packing of a document
-- Assumes nothing.
pub mod Runs
pub mod Beside
pub mod Members
pub mod Turns
pub mod Heads
pub mod Named
pub mod Surveyed
