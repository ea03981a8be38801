pub mod NodeCalls
pub mod RouterCalls
pub mod ServerCalls
