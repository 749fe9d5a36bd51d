-- The bench's cases, what is asked of each, and what must come out. Assumes nothing.
pub mod Cases
