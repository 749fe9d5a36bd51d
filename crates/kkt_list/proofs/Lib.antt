-- The laws that the whole list cites. Assumes nothing.
pub mod Places
