-- The definitions that the contracts cite: the matrix as slots, and its list. Assumes nothing.
pub mod Slots
pub mod Matrix
pub mod Walks
