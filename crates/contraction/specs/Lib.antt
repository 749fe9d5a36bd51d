-- The definitions that the contracts cite, from document 01 and sens/mod.rs. Assumes nothing.
pub mod Contraction
pub mod Selectors
