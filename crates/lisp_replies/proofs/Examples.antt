-- Examples: what the definitions make of a few rows and records, and what they don't allow.
pub mod Records
pub mod Replies
pub mod Own
