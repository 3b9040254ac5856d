-- Laws by subject, which the functions' proofs cite.
--     Laying      bytes and fields that are laid, by steps
--     Decoding    a string's decoded bytes: those that stand for themselves, and then the rest
--     Items       values at rows that are laid as fields
--     Finishing   from the bytes laid to the contract of packing
--     Spelling    contents, place by place: characters, and bytes that spell themselves
--     Fields      the field at a place
--     Members     values of fields as they are written, item by item
--     Restoring   from what was written to the contract of unpacking
pub mod Laying
pub mod Decoding
pub mod Items
pub mod Finishing
pub mod Spelling
pub mod Fields
pub mod Members
pub mod Restoring
