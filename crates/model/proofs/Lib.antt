-- Theorems about the model, for the agent's code and for the theorems over runs. `Worked` and `Useless` are values of it, by computation.
mod Worked
mod Useless
-- refusals
pub mod Refused
pub mod State
pub mod Answers
-- the effect of a call, by its class
pub mod Classes
pub mod Changes
pub mod Peers
pub mod Received
pub mod Statistics
-- what every call keeps
pub mod Kept
pub mod Store
pub mod Parts
pub mod Unread
-- a fresh agent, and outcomes
pub mod Default
pub mod Outcomes
