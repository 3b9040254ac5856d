-- What the definitions of `text` and `contact` say of whole texts and whole cards.
pub mod Specimens
