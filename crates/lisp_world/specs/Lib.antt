pub mod Faults
pub mod Runs
pub mod Quiet
pub mod Openings
pub mod Making
pub mod Asked
pub mod Taking
