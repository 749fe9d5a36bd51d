-- The laws of a call's own tests. Assumes nothing.
pub mod Own
