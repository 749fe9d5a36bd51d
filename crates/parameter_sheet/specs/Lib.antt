-- The definitions that the contracts cite: the columns of a parameter, one after the other. Assumes nothing.
pub mod Sheet
pub mod Sites
