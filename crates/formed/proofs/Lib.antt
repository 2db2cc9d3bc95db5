-- Laws of the tests of a table, which the agent cites. `Flags` and `Loaded` serve this crate's proofs.
mod Flags
mod Loaded
pub mod Formed
