-- The laws that proofs cite, here and in the crates above. Assumes nothing.
pub mod Blanks
pub mod Calls
pub mod Runs
