pub mod ByVerdict
pub mod Sheet
