-- The definitions that the contracts cite, from document 01. Assumes nothing.
pub mod Calls
pub mod Points
