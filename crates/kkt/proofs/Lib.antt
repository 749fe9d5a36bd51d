-- The laws of emission that every loop over columns cites. Assumes nothing.
pub mod Emitted
