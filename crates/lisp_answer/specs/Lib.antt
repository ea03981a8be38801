pub mod DefaultPrefix
pub mod Setup
pub mod Fresh
pub mod Words
pub mod Answer
pub mod Line
pub mod Fault
pub mod Input
