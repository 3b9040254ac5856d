-- Laws of writing to a lent output, which functions that write cite.
--     Bytes   bytes written in steps
--     Runs    a run of a text's bytes, stored as far as there is room
--     Own     a byte that needs no escape
pub mod Bytes
pub mod Runs
pub mod Own
