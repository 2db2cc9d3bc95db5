-- Laws of the list of outstanding requests, which the table and the agent cite. `Lists` serves this crate's proofs.
pub mod Lists
pub mod Formed
pub mod Search
pub mod Free
pub mod Transmits
pub mod Polls
pub mod Kept
pub mod Use
