-- The definitions that the contracts cite, from document 01. Assumes nothing.
pub mod Sheet
pub mod NetworkB
