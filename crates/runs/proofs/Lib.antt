-- Theorems about runs.
pub mod Times
pub mod Steady
pub mod Spared
pub mod One
pub mod Present
pub mod Demand
pub mod Rests
pub mod Last
pub mod Whole
pub mod Play
pub mod Counts
pub mod Conserved
pub mod Followed
pub mod Ends
pub mod Bytes
pub mod Samples
mod Examples
mod Eventful
