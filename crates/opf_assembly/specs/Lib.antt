-- The definitions that the contracts cite: the program that `assemble_opf` writes. Assumes nothing.
pub mod Assembly
