-- The definitions that the contracts cite: words stored after each other. Assumes nothing.
pub mod Walks
