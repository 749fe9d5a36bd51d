-- The laws that the proofs of the columns cite. Assumes nothing.
pub mod Filling
