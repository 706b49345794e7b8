pub mod Cutting
pub mod Projecting
pub mod Standing
