-- Laws about the definitions of specs/.
pub mod Answers
pub mod Steps
pub mod Moments
pub mod Kept
pub mod Limits
