pub mod Appends
pub mod Lines
pub mod RecordsEnd
pub mod Written
