pub mod PasteLaws
pub mod WordsLaws
pub mod FieldLaws
