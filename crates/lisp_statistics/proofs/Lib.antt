pub mod Counting
pub mod Gathered
pub mod Listed
pub mod WholeList
pub mod SiteCounting
pub mod Places
