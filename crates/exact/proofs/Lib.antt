-- The laws of finite sums, the theorem that the two directions agree, and its instance at the integers. Assumes nothing.
pub mod Sums
pub mod Contraction
pub mod Integers
