pub mod NumberedLines
pub mod Filled
pub mod Passing
