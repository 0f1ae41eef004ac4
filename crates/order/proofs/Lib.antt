pub mod MarkLaws
pub mod ScanLaws
pub mod VisitLaws
pub mod OrderLaws
pub mod CoverLaws
pub mod AnswerLaws
