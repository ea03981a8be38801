mod DroppedLaws
pub mod Due
mod Moving
mod FewLaws
mod KindLaws
mod Pouring
mod RareLaws
mod Repeating
pub mod Silent
mod SumLaws
pub mod Telling
mod WholeLaws
pub mod Examples
