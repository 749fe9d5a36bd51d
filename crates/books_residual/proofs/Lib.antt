-- The theorems that each parameter's column is the residual's derivative, and that the residual has one row for each unknown. Assumes nothing.
pub mod Doubles
pub mod Places
pub mod Rows
pub mod Still
pub mod Setting
pub mod Quiet
pub mod Limits
pub mod Linear
pub mod Ends
pub mod Branches
pub mod Column
pub mod Covered
