pub mod Unasked
pub mod Asked
pub mod Sends
pub mod Handling
pub mod Promises
