pub mod Size
pub mod Lent
pub mod Fields
