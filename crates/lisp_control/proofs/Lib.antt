mod Asking
mod Allowing
mod Comparing
mod Gathered
pub mod Values
