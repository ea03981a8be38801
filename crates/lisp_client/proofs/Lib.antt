pub mod Steps
pub mod Rows
pub mod Counts
pub mod Promise
pub mod Looking
