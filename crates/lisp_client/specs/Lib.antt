pub mod Steps
pub mod Promised
pub mod Answers
pub mod Stores
pub mod Looked
