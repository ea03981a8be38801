pub mod Number
pub mod Text
pub mod Reading
pub mod Written
pub mod Form
