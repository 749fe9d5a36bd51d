-- Formulas over any commutative ring, their derivatives, and the residual of any program. Assumes nothing.
pub mod Exact
pub mod Derivatives
pub mod Conditions
