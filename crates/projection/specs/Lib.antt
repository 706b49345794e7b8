pub mod Distances
pub mod Open
pub mod Dijkstra
pub mod Saturating
pub mod Projection
pub mod Example
pub mod Lawful
