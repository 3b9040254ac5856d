pub mod Types
pub mod Rows
pub mod Catalog
pub mod Marks
pub mod RuleTable
pub mod Walk
pub mod Judged
pub mod Localizing
