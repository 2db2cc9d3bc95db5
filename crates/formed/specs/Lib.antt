pub mod Flags
pub mod Order
