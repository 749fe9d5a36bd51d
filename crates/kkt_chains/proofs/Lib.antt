-- The laws of a bus's entries: of its first place among the references, and of the branches at it. Assumes nothing.
pub mod References
pub mod Ends
