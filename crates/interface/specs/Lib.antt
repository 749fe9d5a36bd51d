-- The definitions that the contracts cite, from sens/interface.rs and document 01:
-- element families, served scales, and numbers for other languages. Assumes nothing.
pub mod Axes
pub mod Scales
pub mod Codes
