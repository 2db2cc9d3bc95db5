-- Document 01's specimens, and a value on either side of each limit.
pub mod Specimens
pub mod Edges
