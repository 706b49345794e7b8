pub mod Answering
pub mod Example
pub mod Lowering
pub mod Relaxing
pub mod Running
pub mod Saturation
pub mod Settling
pub mod Steps
