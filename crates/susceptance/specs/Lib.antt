-- The definitions that the contracts cite: the list, from document 01, and what the walk along a bus makes of it. Assumes nothing.
pub mod Susceptance
pub mod Incidence
