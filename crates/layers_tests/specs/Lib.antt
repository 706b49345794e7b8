pub mod Leaf
pub mod Lawful
