-- Laws of numbers in network byte order, for the layers above.
pub mod Order
pub mod Spelling
