pub mod Parts
pub mod Pointers
