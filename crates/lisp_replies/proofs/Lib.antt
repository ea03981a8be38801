pub mod SeenLaws
pub mod FitLaws
pub mod KeptLaws
pub mod AlikeLaws
pub mod Examples
pub mod OwnWalkLaws
pub mod OwnHoleLaws
