pub mod Ending
pub mod Limits
pub mod Planned
pub mod Taking
