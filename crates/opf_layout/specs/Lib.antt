-- The definitions that the contracts cite: where the program's columns and rows stand, and raw vectors that are laid so. Assumes nothing.
pub mod Layout
pub mod Raw
