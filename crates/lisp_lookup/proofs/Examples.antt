-- Examples: a few rows, what the definitions make of them, and what they don't allow.
pub mod Rows
pub mod Covering
pub mod Holes
pub mod Growth
