pub mod Price
pub mod Laws
pub mod Blind
pub mod Bound
pub mod Lawful
