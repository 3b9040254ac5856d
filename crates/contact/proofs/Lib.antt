-- The theorems over the definitions of specs/, by subject.
pub mod Members
pub mod Judging
pub mod Patching
pub mod Demands
