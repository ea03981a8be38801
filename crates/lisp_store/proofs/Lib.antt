pub mod Digits
mod Turns
mod LineLaws
pub mod PairNames
pub mod KeptFiles
pub mod MemoryFiles
