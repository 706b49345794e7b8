pub mod Order
pub mod Held
pub mod Pigeon
pub mod Exchange
pub mod Carrying
pub mod Changes
pub mod First
pub mod Uses
