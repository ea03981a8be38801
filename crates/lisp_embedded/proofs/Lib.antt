pub mod Ends
pub mod Host
pub mod Names
pub mod Replies
pub mod Routers
pub mod Sending
pub mod Steps
