pub mod Below
pub mod Terms
pub mod Layer
pub mod Maximum
pub mod Partition
pub mod Same
pub mod Lawful
