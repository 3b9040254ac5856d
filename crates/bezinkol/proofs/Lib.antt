-- What is shown of the contracts together.
pub mod Called
