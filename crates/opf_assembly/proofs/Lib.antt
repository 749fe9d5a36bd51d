-- The laws of the assembly's definitions. Assumes nothing.
pub mod Lengths
