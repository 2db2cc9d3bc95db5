pub mod Head
pub mod Attributes
