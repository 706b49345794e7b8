-- What the laws of the layers are proved by.
pub mod Layer
pub mod Maximum
pub mod Partition
