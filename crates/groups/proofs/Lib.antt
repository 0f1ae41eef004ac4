pub mod SplitLaws
pub mod NumberLaws
pub mod GroupLaws
pub mod PrintLaws
pub mod RowsLaws
pub mod ReadLaws
