-- Laws about the definitions of specs/, which the functions' proofs and the layers above cite.
pub mod Identifiers
pub mod Classes
pub mod Messages
mod Walks
