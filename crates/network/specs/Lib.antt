-- The definitions that the contracts cite, from document 01. Assumes nothing.
pub mod Layout
pub mod Numbers
pub mod Sites
