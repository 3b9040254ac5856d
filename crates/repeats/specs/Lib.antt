-- Repeated names of an object, looked for once the object ends. No file uses a later one.
--     Quoted      a name told by the place of its opening quote: what is decoded up to the closing one
--     Closed      the names that an object closes where its reading doesn't compare them, and what they make of that reading
--     Beginning   how many bytes some names begin with alike
pub mod Quoted
pub mod Closed
pub mod Beginning
