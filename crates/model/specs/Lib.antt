-- The definitions that the contracts cite, from document 01. Assumes nothing.
pub mod Rows
pub mod Quantities
pub mod Kinds
pub mod Calls
pub mod Fills
