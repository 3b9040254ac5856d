-- The theorems over the definitions of specs/, in the order in which they build on each other.
pub mod Numbers
pub mod Strings
pub mod Counting
pub mod Resume
pub mod Sound
pub mod ThreeBytes
pub mod Sane
pub mod Whole
pub mod Live
pub mod Runs
pub mod Fits
pub mod Taken
pub mod Answers
pub mod Promise
pub mod Loosens
pub mod Specimens
