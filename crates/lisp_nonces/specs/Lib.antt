pub mod Pair
pub mod Kept
pub mod Store
pub mod Promises
pub mod Fault
pub mod Memory
pub mod Entries
