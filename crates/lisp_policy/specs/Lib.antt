pub mod Order
pub mod Index
pub mod Limits
pub mod Site
pub mod Extends
pub mod Configuration
