-- The theorems that the assembled program is the manual's, and that the multipliers read back are the book's. Assumes nothing.
pub mod Runs
pub mod Multipliers
pub mod Sides
pub mod Entries
pub mod Range
pub mod Terms
pub mod Groups
pub mod Lines
pub mod Balances
pub mod Costs
pub mod Constraints
pub mod Complete
pub mod Whole
