-- The laws that proofs cite, here and in the crates above. Assumes nothing.
pub mod Nan
pub mod Laws
pub mod Stored
