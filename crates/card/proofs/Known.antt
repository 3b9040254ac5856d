-- The catalog, and searches through it.
pub mod Codes
pub mod Beginnings
pub mod OwnParts
pub mod Columns
pub mod Lent
pub mod Search
