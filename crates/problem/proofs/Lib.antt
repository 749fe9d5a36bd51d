-- Laws that the calls cite. Assumes nothing.
pub mod Nodal
pub mod Returns
