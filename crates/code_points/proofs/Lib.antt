-- What the proofs of several functions share.
pub mod Characters
