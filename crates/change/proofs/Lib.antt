-- The laws of a change. Assumes nothing.
pub mod Made
