-- The definitions that the contracts cite: what is put for a side of a linear row. Assumes nothing.
pub mod Sides
