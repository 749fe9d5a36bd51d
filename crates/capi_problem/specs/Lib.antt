-- The definitions that the contracts cite. Assumes nothing.
pub mod Assembled
pub mod Cells
