pub mod Fault
pub mod Options
pub mod Words
pub mod Capture
pub mod Asking
pub mod Check
pub mod PrintedLine
pub mod Reloading
