-- A host's session, the rounds that it plays, and what holds of a request in it. Each file cites only those above it.
pub mod Session
pub mod Rounds
pub mod Unset
pub mod Row
pub mod Example
