pub mod Fault
pub mod Table
pub mod Numbers
