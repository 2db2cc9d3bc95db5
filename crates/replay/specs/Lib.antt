pub mod Runs
pub mod Lent
pub mod Example
