-- The laws of a run of changes. Assumes nothing.
pub mod Run
