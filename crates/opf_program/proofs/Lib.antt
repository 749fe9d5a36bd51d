-- The laws of entries by value, and of a branch's. Assumes nothing.
pub mod Triplets
pub mod Branches
