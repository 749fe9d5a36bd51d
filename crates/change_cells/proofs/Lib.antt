-- The laws that proofs cite. Assumes nothing.
pub mod Among
