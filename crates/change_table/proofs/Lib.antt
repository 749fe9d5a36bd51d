-- The laws of the table: what a change leaves as it was, how many cells it names, and that each can move. Assumes nothing.
pub mod Among
pub mod Agree
pub mod Cover
pub mod Frame
pub mod Distinct
pub mod Moves
