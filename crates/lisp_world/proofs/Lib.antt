pub mod Taking
pub mod Keys
pub mod Making
pub mod Noticing
pub mod Sending
