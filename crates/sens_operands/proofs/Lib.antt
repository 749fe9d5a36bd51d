-- The laws that the proofs of `operand_selector` cite. Assumes nothing.
pub mod Returns
