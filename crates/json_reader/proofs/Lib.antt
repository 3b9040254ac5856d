-- What the proofs of several functions share.
pub mod Alike
pub mod Comparing
pub mod Marks
pub mod PlainRuns
pub mod Eights
pub mod Runs
pub mod Ways
pub mod Begun
pub mod Store
pub mod Items
pub mod Closing
pub mod Endings
pub mod Kept
pub mod Unread
pub mod Seeking
pub mod Ordered
