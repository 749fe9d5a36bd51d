-- The laws that the proofs of `parameter_jacobian` cite. Assumes nothing.
pub mod Columns
pub mod Laying
pub mod Returns
