pub mod RowLaws
pub mod TrayLaws
pub mod TurnLaws
pub mod PlaceLaws
pub mod SheetLaws
pub mod AnswerLaws
pub mod Demand
