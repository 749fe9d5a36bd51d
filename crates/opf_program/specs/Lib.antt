-- What puts an entry of the program, and a branch's. Assumes nothing.
pub mod Walks
