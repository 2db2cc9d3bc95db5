-- Laws of the equality of addresses, for the layers above.
pub mod Same
