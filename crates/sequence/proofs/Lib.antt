-- The laws that proofs cite, here and in the crates above. Assumes nothing.
pub mod Lists
pub mod Facts
pub mod Fronts
pub mod Blocks
pub mod Answers
pub mod Sheets
pub mod Links
pub mod Sums
pub mod Sinks
