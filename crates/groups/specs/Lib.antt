pub mod Line
pub mod Rows
pub mod Groups
