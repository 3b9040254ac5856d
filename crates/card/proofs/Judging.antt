-- Judging: values, the members of an object, the rules between them, the walk over a card's rows, and the verdict.
pub mod Along
pub mod Roles
pub mod Values
pub mod Separators
pub mod Rules
pub mod Walk
pub mod Verdict
