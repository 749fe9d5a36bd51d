-- The definitions that the contracts cite: `assemble_opf` as a call, and what its inner functions are lent. Assumes nothing.
pub mod Calls
pub mod Walks
