pub mod Heap
pub mod Content
pub mod Sifting
pub mod Entries
pub mod Lawful
