-- The definitions that the contracts cite: a generator's turn of a loop. Assumes nothing.
pub mod Turns
