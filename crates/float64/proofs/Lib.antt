-- The laws that proofs cite, here and in the crates above. Assumes nothing.
pub mod Bits
pub mod Order
pub mod Signs
pub mod Zeros
