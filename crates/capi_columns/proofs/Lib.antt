-- The laws that the proofs of the exports cite. Assumes nothing.
pub mod Column
pub mod Selector
