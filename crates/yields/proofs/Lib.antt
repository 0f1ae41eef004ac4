pub mod StepLaws
pub mod Demand
