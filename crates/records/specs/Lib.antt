pub mod Coding
pub mod Live
