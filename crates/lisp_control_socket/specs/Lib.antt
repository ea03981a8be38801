pub mod Answers
pub mod Backup
