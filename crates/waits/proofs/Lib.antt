-- Laws about the definitions of specs/.
pub mod Doubling
pub mod Limits
