pub mod Variables
pub mod Entries
pub mod Operators
pub mod Held
pub mod Marks
pub mod Views
