-- A good string by rules (specs/Spelling.antt) and by steps (specs/Chars.antt, specs/Strings.antt) is the same:
--     Codes, Digits         code points, UTF-8, the letters and digits of escapes
--     Taken, Steps          a spelled character is taken, and what a step says stands there
--     Characters            the step is right about one character, which is unique
--     Refused               the step is right about what is no character
--     Through               reading a string goes through bytes that spell, and stops behind them
--     Ends                  so a string's end, its 2 and its 3 are each exactly where the rules say
--     Decoded               the list of code points is unique, and decoding hands out its UTF-8
--     Encoding              UTF-8 is bytes, and tells good code points apart
-- Assumes nothing.
pub mod Codes
pub mod Digits
pub mod Taken
pub mod Steps
pub mod Characters
pub mod Refused
pub mod Through
pub mod Ends
pub mod Decoded
pub mod Encoding
