-- What the leaf's laws are proved by.
pub mod Leaf
