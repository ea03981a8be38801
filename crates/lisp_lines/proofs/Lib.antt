pub mod Acks
pub mod Appends
mod Counting
pub mod Fronts
mod Identities
pub mod NodeNames
pub mod OutputLemmas
pub mod Parts
mod Rows
pub mod Walking
