-- `Rows` has the laws that a caller's proof cites; `Copies` serves this crate's proofs.
pub mod Rows
mod Copies
