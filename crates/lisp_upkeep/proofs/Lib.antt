pub mod Lines
pub mod Members
pub mod Lists
mod Refused
mod Saved
pub mod Written
