-- Examples: what the definitions make of a few Map-Requests and replies.
pub mod Asked
pub mod Sends
pub mod Handling
