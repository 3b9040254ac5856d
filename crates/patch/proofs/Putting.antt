-- Bytes put into an output: names, values as they are, and members as the entries of a patch leave them. Assumes nothing.
pub mod Labels
pub mod Spelled
pub mod Walks
pub mod Copies
pub mod Kept
pub mod Additions
pub mod Leaving
pub mod Patches
pub mod Cards
pub mod Meeting
pub mod Passing
pub mod Objects
