pub mod FaultLaws
pub mod SendsLaws
pub mod HandlingLaws
pub mod ListedLaws
pub mod Examples
