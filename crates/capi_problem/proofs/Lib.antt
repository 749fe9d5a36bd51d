-- The laws that the proofs of the exports cite. Assumes nothing.
pub mod Bounds
pub mod Filled
pub mod Lengths
pub mod Assembling
pub mod Carried
