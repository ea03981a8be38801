pub mod Words
pub mod Told
pub mod Object
pub mod Time
pub mod Severity
pub mod Timed
pub mod Views
