-- Theorems about every session: that it is a run of the model, and what follows of the theorems about runs.
pub mod Session
pub mod Theorems
pub mod Rounds
pub mod Demand
mod Still
pub mod Unset
pub mod Row
mod Example
