-- The laws that proofs cite, here and in the crates above. Assumes nothing.
pub mod Incidence
pub mod Bound
