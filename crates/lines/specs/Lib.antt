pub mod Line
pub mod Costs
