-- The theorems over the definitions of specs/, by subject.
--     Fields      a field is cut off whole, and what is cut off of bytes is a field
--     Contents    the tests of UTF-8 and of numbers tell what they should
--     Widest      51 is a test of the whole packing's length
--     Plain       the document of the compact text: the same value, within the same limits, spelled by 01's escapes, and nothing shorter
--     Same        no two different values share a packing, and the same values do
--     Format      the format by rules is what is computed
--     Distinct    the test of names decides `Distinct`
--     Again       what is packed is found again
--     Sound       what is found is a good document whose packing the bytes are
--     Bytes       what is packed is bytes
--     Room        how much room is always enough
--     Texts       texts that are accepted, and bytes that are unpacked
--     Packs, Unpacks     what the two services answer and leave
--     Promise     so all that specs/Promise.antt says: `stores_cards`, `base_stores_cards`
--     Determined  the promise leaves nothing open: `one_vault`
--     Edge        where 51 begins
--     Turns       the walks' own equations, without turns
--     Places      fields by their places
-- Assumes nothing.
pub mod Fields
pub mod Contents
pub mod Widest
pub mod Plain
pub mod Same
pub mod Format
pub mod Distinct
pub mod Again
pub mod Sound
pub mod Bytes
pub mod Room
pub mod Texts
pub mod Packs
pub mod Unpacks
pub mod Promise
pub mod Determined
pub mod Edge
pub mod Turns
pub mod Places
