-- The laws that the calls' proofs cite. Assumes nothing.
pub mod Returns
