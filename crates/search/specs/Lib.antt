pub mod Search
pub mod Plans
pub mod Replay
