-- The theorems that the residual is that of the manual's program, and that the matrix and the parameters' columns are its exact derivatives, over any commutative ring; and an instance at the integers. Assumes nothing.
pub mod Laws
pub mod Sums
pub mod Rates
pub mod Applied
pub mod Families
pub mod Slacks
pub mod Branches
pub mod Multipliers
pub mod Variables
pub mod Stationarity
pub mod Rows
pub mod Matrix
pub mod Affine
pub mod Constants
pub mod Residual
pub mod Optimal
pub mod Integers
