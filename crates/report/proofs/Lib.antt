pub mod LinesLaws
pub mod TextLaws
pub mod ShelfLaws
