pub mod Ready
pub mod Called
pub mod Said
