-- The definitions that the contracts cite. Assumes nothing.
pub mod Told
pub mod InTurn
