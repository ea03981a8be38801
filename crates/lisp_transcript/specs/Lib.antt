pub mod Pieces
pub mod Tag
pub mod Fault
pub mod Message
pub mod Line
pub mod Schedule
pub mod Writing
