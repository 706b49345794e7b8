pub mod Faults
pub mod Plain
pub mod Runs
pub mod Counts
