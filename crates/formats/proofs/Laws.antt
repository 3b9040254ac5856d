-- Each format byte by byte: what is still asked of the bytes left.
pub mod Ids
pub mod Counts
pub mod Times
