-- What a card must keep: the table of types, and each rule in words. docs/RULES.md, 5 and 6.
pub mod Schema
pub mod AskedKinds
pub mod SimpleValues
pub mod BetweenMembers
pub mod Breaches
-- The same by tests, the verdict on a text, and what is shown of both.
pub mod Values
pub mod Dates
pub mod Rules
pub mod Judge
pub mod Verdict
pub mod Judging
-- That the table is what the signatures of RFC 9553 say, and has each rule between members.
pub mod Signatures
pub mod RuleCases
-- How a localization is applied, and what localizing answers.
pub mod Pointer
pub mod PointerText
pub mod Patch
pub mod Faults
pub mod Places
pub mod Localize
pub mod Contract
-- What is shown of it: the conditions in words, what a patched card is, and that it is read back.
pub mod Entries
pub mod Conditions
pub mod Likeness
pub mod Patching
-- The services as a caller sees them, and the three demands, of reading in pieces too (crate wire). The specimens stand in a crate of their own.
pub mod Services
pub mod Demands
