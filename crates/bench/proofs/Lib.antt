-- Every case of the bench comes out as document 01 says. Assumes nothing.
pub mod Bench
