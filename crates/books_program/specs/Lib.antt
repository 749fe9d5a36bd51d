-- The manual's constraints with their rows of the layout, and what the assembled program and the multipliers read back must hold. Assumes nothing.
pub mod Rows
pub mod Program
pub mod Multipliers
