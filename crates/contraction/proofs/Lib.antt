-- The laws of columns, of a selector's entries, of gathered entries and of words stored column by column, and a case by computation. Assumes nothing.
pub mod Columns
pub mod Gathers
pub mod Strides
pub mod Examples
