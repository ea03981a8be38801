-- Examples: a few messages, what a budget makes of them, and what the definitions don't allow.
pub mod Slots
pub mod Sent
