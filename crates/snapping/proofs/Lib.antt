-- The laws that proofs cite, here and in the crates above. Assumes nothing.
pub mod Limits
pub mod Rows
pub mod Words
