pub mod Question
pub mod Disallowed
pub mod Gathering
pub mod Answer
pub mod Part
