-- The definitions that the contracts cite: a parameter's column, word by word. Assumes nothing.
pub mod Columns
pub mod Points
pub mod Walks
pub mod Moves
