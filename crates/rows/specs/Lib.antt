pub mod Tree
pub mod Opens
pub mod Ranges
pub mod Answers
