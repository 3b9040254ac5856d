pub mod Answer
pub mod Called
