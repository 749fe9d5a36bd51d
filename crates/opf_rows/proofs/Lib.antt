-- The laws of segments and of linear rows. Assumes nothing.
pub mod Rows
