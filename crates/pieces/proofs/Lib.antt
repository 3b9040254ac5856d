-- What the proofs of several functions share.
pub mod Ways
pub mod Opened
pub mod Acts
pub mod Steps
pub mod Stretches
pub mod Feeding
pub mod Bits
pub mod Tidy
