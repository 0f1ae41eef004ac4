pub mod CostLaws
pub mod LineLaws
