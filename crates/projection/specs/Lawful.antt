pub mod Admissibility
pub mod Open
pub mod Projection
