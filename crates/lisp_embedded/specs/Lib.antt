pub mod Host
pub mod Receiving
pub mod Notices
pub mod Routers
pub mod Replying
pub mod Held
