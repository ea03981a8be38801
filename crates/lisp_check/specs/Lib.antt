pub mod Warning
pub mod Mode
pub mod Header
pub mod Line
pub mod Secret
