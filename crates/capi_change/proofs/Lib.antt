-- The laws that proofs cite. Assumes nothing.
pub mod Telling
pub mod Carried
pub mod InTurn
