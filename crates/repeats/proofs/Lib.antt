-- The theorems over the definitions of specs/, by subject.
pub mod Quoted
pub mod Members
pub mod Fair
pub mod Gathering
pub mod Beginning
