-- The definitions that the contracts cite: 01's table of changes. Assumes nothing.
pub mod Table
