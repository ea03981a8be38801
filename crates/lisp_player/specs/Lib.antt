pub mod Asked
pub mod Outcomes
pub mod Playing
pub mod Schedule
pub mod Untaken
