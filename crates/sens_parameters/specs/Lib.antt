-- The definitions that the contracts cite: `parameter_jacobian` as a call. Assumes nothing.
pub mod Calls
pub mod Sites
