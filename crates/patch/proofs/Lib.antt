-- Laws by subject, which the functions' proofs cite.
pub mod Listing
pub mod Putting
pub mod Drafting
