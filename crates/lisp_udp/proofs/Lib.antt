pub mod Growing
pub mod LifeBegins
pub mod LivesInOrder
pub mod Places
pub mod Sending
pub mod Taken
pub mod Bound
pub mod ObjectLines
