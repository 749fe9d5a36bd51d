-- The definitions that the contracts cite. Assumes nothing.
pub mod Lists
pub mod Facts
pub mod Layout
pub mod Answers
pub mod Sheets
pub mod Links
pub mod Sinks
pub mod Laying
pub mod Given
