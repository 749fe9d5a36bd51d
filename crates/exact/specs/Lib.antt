-- The two directions of `forward_adjoint` in exact arithmetic, over any commutative ring. Assumes nothing.
pub mod Ring
pub mod Contraction
