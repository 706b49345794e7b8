-- What the laws of the entries' orders are proved by.
pub mod Orders
