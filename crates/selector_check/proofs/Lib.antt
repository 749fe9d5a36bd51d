-- The laws of products and sums that are tested, of a system's size, and of a selector's tests. Assumes nothing.
pub mod Numbers
pub mod Selecting
pub mod Dims
