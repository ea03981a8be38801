pub mod Pairs
pub mod Entries
pub mod Restart
pub mod Saving
pub mod Kept
