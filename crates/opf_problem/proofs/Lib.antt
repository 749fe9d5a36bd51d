-- The laws that the proofs of `assemble_opf` cite. Assumes nothing.
pub mod Returns
pub mod Bound
