-- The definitions that the contracts cite. Assumes nothing.
pub mod Exports
pub mod Decoding
pub mod Filling
pub mod Listing
