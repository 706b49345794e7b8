pub mod Patterns
pub mod Planning
pub mod Solving
pub mod Space
pub mod Errors
