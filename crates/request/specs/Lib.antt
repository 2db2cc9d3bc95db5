pub mod Times
pub mod Request
pub mod Limits
pub mod Answers
pub mod Kept
