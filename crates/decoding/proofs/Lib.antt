-- The laws that the proofs of the exports cite. Assumes nothing.
pub mod Decoded
pub mod Answered
pub mod Listed
pub mod Filled
pub mod ListFilled
