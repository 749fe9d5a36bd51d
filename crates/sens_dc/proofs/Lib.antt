-- The returns of the matrix call. Assumes nothing.
pub mod Returns
