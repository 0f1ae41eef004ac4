pub mod LevelLaws
pub mod BoundLaws
pub mod StackLaws
pub mod RowLaws
pub mod BlockLaws
pub mod StepLaws
