-- `Ready` links the test of the state to the model's, `Model` what a call's function answers, `Said` the outcome of a call, and
-- `Theorems` is about what the public functions promise; the others have a law for each way through a function.
pub mod Ready
mod Table
mod Model
mod Peers
mod Calls
mod Sends
mod Named
mod Scans
mod Received
mod Submits
mod Arms
pub mod Said
pub mod Theorems
