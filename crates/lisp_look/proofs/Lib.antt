pub mod Calls
pub mod Fits
pub mod Appends
pub mod Taken
