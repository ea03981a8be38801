pub mod Found
pub mod Halving
pub mod IndexLaws
pub mod Behind
pub mod Allowed
pub mod ExtendsLaws
pub mod ExtendsExamples
