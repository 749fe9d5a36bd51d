-- The definitions that the contracts cite: what `sitechange` prints; bytes written into a buffer, and a change call's answer. Assumes nothing.
pub mod Text
pub mod Writing
pub mod Answers
