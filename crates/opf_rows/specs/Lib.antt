-- What puts a linear row's terms. Assumes nothing.
pub mod Terms
