pub mod Kind
pub mod Queue
pub mod Fair
