-- The laws that proofs cite, here and in the crates above. Assumes nothing.
pub mod Blocks
pub mod Segments
pub mod Starts
