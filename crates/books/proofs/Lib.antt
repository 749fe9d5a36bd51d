-- The theorems that the port equals the books. Assumes nothing.
pub mod Zeros
pub mod Doubles
pub mod Cells
pub mod Words
pub mod Setting
pub mod Port
pub mod Book
pub mod Pairs
pub mod Limits
pub mod Sheds
pub mod Segments
pub mod Rows
pub mod Susceptance
pub mod Model
pub mod Balances
pub mod Angles
pub mod Whole
