-- What is written is read back: the text of a document is one of the grammar, and says that document.
--     Runs          bytes at a place, and quotes around what spells
--     Says          the document that a derivation says, without places, is that of the text and its tree
--     Derived       what is written of a document derives, and says the document again
--     Sizes         a document has as many values as the tree that says it, and is as deep
--     Meant         a text of the grammar whose document is writable is accepted within the limits
--     Again         so what is written is read back: `reads_back` (`ReadsBack`, specs/Writable.antt), by `told_answers` (proofs/Answers.antt)
--     Shorter       what is written of a derived value is no longer than the value
--     Documents     the document of a text that is read is writable, and no longer than the text
-- Assumes nothing.
pub mod Runs
pub mod Says
pub mod Derived
pub mod Sizes
pub mod Meant
pub mod Again
pub mod Shorter
pub mod Documents
