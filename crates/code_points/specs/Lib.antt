-- What the contracts of the crate cite beside crate text.
pub mod Characters
