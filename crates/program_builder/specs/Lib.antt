-- The definitions that the contracts cite: what `ProgramBuilder` keeps. Assumes nothing.
pub mod Builder
