-- What speaks of no format: walks over places, parts of lists, byte order, what holds of each element, tests, multiples, sorting,
-- the earliest of places that repeats a label.
pub mod Scan
pub mod Lists
pub mod Order
pub mod Each
pub mod Tests
pub mod Divides
pub mod Sorting
pub mod Earliest
