-- The definitions that the contracts cite: the network whose terms are a slice of records. Assumes nothing.
pub mod Terms
pub mod Records
