mod Queries
mod Failures
mod Taking
mod Leading
mod Telling
mod Beginning
