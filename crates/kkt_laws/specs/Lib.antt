-- What the laws of the list say. Assumes nothing.
pub mod Laws
