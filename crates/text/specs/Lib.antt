pub mod Field
pub mod Paste
