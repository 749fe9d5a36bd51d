-- The tests of a change, and demand 3 of every run. Assumes nothing.
pub mod Own
pub mod Steps
pub mod Readings
pub mod Sheets
pub mod Along
pub mod Cells
pub mod Whole
