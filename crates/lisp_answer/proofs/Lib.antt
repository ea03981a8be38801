pub mod AnsweringLemmas
pub mod InputLemmas
pub mod FreshLaws
