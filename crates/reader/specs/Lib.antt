pub mod Named
pub mod Rendering
pub mod Loading
