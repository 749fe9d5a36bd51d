-- The laws of the groups. Assumes nothing.
pub mod Turns
pub mod Whole
