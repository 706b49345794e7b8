pub mod Lists
pub mod Cuts
pub mod NthLines
pub mod Told
