-- What the laws of the estimators are proved by.
pub mod Rows
pub mod Blind
