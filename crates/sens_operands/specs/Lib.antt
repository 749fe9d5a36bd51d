-- The definitions that the contracts cite: `operand_selector` as a call. Assumes nothing.
pub mod Calls
