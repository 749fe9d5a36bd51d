-- The laws of the susceptance sums, which proofs cite here and in the crates above. Assumes nothing.
pub mod Sums
