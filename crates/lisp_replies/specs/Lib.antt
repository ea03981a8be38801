pub mod Walk
pub mod Narrowing
pub mod Reply
pub mod Kept
pub mod Own
pub mod OwnKept
pub mod OwnSteps
