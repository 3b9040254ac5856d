-- Laws by subject, which the functions' proofs cite.
pub mod Known
pub mod Judging
pub mod Localizing
