-- The law that proofs cite in the crates above: the number of each value. Assumes nothing.
pub mod Onto
