-- The residual, structural differentiation, and what a parameter's column must hold. Assumes nothing.
pub mod Residual
pub mod Rates
pub mod Columns
