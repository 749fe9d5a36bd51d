-- The definitions that the contracts cite: the calls of problem/dc.rs. Assumes nothing.
pub mod Calls
