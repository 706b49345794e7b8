pub mod Index
pub mod Rows
pub mod Capacity
pub mod Steps
pub mod Trees
pub mod Plans
pub mod Expanded
pub mod Ways
