-- Examples: a small network, what the definitions make of its traces, and what they don't allow.
pub mod Steps
pub mod LegalRows
pub mod Meanings
pub mod NearMisses
pub mod BrokenPromises
