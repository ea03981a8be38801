pub mod SumLaws
pub mod RowLaws
pub mod BudgetLaws
pub mod AccountLaws
pub mod Examples
