pub mod Markup
pub mod Picture
pub mod Drawing
