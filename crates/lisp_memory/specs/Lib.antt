pub mod Refusal
pub mod Room
pub mod Appending
pub mod Inserting
