pub mod Made
pub mod Parts
pub mod Places
pub mod Products
pub mod Ranks
pub mod TaskParts
pub mod Walks
