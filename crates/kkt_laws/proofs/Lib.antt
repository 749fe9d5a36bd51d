-- The laws that proofs cite, here and in the crates above. Assumes nothing.
pub mod Sums
pub mod Counted
pub mod Balances
pub mod Columns
pub mod Bound
pub mod Every
pub mod Values
pub mod Range
