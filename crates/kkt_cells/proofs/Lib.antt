-- The laws of the kept susceptance sums. Assumes nothing.
pub mod Cells
