pub mod Search
pub mod Entry
