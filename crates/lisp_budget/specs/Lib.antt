pub mod Sent
pub mod Budget
