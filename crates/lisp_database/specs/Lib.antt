pub mod Columns
pub mod Table
pub mod Writer
pub mod Schema
pub mod Kept
pub mod Group
pub mod Fault
pub mod Meaning
