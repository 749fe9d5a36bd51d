-- The definitions that the contracts cite: 01's job book, and what a whole run keeps. Assumes nothing.
pub mod Book
pub mod Run
