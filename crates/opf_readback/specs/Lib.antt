-- The definitions that the contracts cite: the solution sheet that a solver's raw vectors give, and the words of its entries. Assumes nothing.
pub mod Readback
pub mod Walks
pub mod Points
