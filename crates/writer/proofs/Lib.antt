pub mod HeldLaws
pub mod FitLaws
pub mod SizeLaws
pub mod PutLaws
pub mod EntryLaws
