-- The laws of the layout: counting, ranks, blocks. Assumes nothing.
pub mod Counting
pub mod Ranks
pub mod Blocks
