-- Runs, rounds and demand 3; what the counters, the ends of requests and the bytes handed out mean over a run. Each file cites only those
-- above it.
pub mod Answers
pub mod Run
pub mod Round
pub mod Times
pub mod Demand
pub mod Last
pub mod Whole
pub mod Play
pub mod Counts
pub mod Conserved
pub mod Ends
pub mod Followed
pub mod Samples
pub mod Bytes
pub mod Examples
pub mod Eventful
