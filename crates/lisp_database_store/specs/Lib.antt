pub mod Fault
pub mod Meaning
pub mod Table
pub mod Signing
pub mod TakeOver
pub mod Groups
pub mod Keeper
pub mod EmptyDatabase
