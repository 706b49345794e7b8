pub mod Stepping
pub mod Advancing
pub mod Props
pub mod Writing
pub mod Replays
pub mod Parts
