-- The laws that the proofs of a column cite. Assumes nothing.
pub mod Touching
