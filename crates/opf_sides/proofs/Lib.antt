-- The laws that the proofs of q, b and the cones cite. Assumes nothing.
pub mod Storing
pub mod Cones
