-- The laws of the text. Assumes nothing.
pub mod Writing
pub mod Named
pub mod Network
pub mod Answers
pub mod Printed
