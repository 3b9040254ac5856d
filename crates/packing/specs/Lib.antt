-- The definitions in the order in which they are read: none uses a later one. In comments 01 is the rules paper and 12 the request.

-- the format by rules
pub mod Format
-- packing: the bytes of a document, and its longest content
pub mod Packed
-- what packing sees of a document, and the document of the compact text
pub mod Values
-- unpacking: fields, and the document that they say, or none
pub mod Fields
pub mod Unpacked
-- the same in the shape of code: a field by its place
pub mod Places
-- both services as a caller sees them, their contracts, and what packing can write
pub mod Services
pub mod Unpackable
-- what is promised of them
pub mod Promise
-- where 51 begins, and cases by computation
pub mod Edge
pub mod Specimens
