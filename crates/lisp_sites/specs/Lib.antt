pub mod Form
pub mod Field
pub mod Keys
pub mod Names
pub mod Numbers
pub mod Table
pub mod Answers
