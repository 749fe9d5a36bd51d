-- Laws that several proofs of this crate cite. Assumes nothing.
pub mod Turns
