-- The two books' definitions: formulas, any convex program with its KKT matrix, and the DC program. Assumes nothing.
pub mod Forms
pub mod Convex
pub mod Manual
pub mod Matrix
pub mod Model
