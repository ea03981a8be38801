pub mod Powers
pub mod Extensions
pub mod Options
pub mod Steps
