-- What the contracts of the vault cite beside crate packing: packing (Laid), and then unpacking.
pub mod Laid
pub mod Strings
pub mod Cuts
pub mod Values
pub mod Unpack
