pub mod Search
pub mod Scan
pub mod Formed
pub mod Use
