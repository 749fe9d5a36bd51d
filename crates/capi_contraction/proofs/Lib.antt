-- The laws that the proofs of the exports cite. Assumes nothing.
pub mod Scaled
pub mod Sided
pub mod Fitting
pub mod First
pub mod Third
