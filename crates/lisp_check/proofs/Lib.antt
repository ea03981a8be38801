pub mod Each
pub mod Exact
pub mod Decided
pub mod Repeats
pub mod SecretWarnings
pub mod Among
