-- The laws of a solver's raw vectors beside the network's tests. Assumes nothing.
pub mod Raw
