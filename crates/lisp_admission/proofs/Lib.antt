pub mod Extended
pub mod Other
mod Searching
pub mod Secrets
pub mod Turned
pub mod Unlimited
