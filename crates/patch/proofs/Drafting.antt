-- The localized card: the PatchObject of a language, what is written of the card, and what that says of localizing. Assumes nothing.
pub mod Children
pub mod Cards
pub mod Compose
pub mod Drafts
pub mod Sayable
