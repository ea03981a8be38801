pub mod Cores
pub mod Hearing
pub mod Memory
pub mod Asked
