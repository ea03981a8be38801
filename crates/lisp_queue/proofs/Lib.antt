mod Fair
mod Kept
