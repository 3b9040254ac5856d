-- What unpacking asks of a packing beside writing it. `Survey` is cited by the contract of `survey`, and said of documents by `surveyed`.
pub mod Survey
-- what the functions inside the crate ask
pub mod Asks
