-- Laws that several proofs of this crate cite. Assumes nothing.
pub mod Steps
pub mod Stores
pub mod Turns
pub mod Returns
