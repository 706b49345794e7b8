pub mod Actions
pub mod Walks
