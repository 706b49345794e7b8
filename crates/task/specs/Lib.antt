pub mod Model
pub mod Answers
pub mod Names
pub mod Making
pub mod Walking
