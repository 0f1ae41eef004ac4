pub mod CycleLaws
pub mod SumLaws
pub mod RowLaws
pub mod StepLaws
pub mod EntryLaws
