pub mod Tells
pub mod Causes
pub mod Faults
pub mod Records
pub mod Rules
pub mod Lines
