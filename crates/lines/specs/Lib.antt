pub mod Printable
pub mod Numbers
pub mod Reading
pub mod Views
