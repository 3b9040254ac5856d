-- What the contracts inside the crate cite beside crate wire.
pub mod Turns
pub mod Passing
