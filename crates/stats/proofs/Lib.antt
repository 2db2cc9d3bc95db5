-- Laws about the definitions of specs/.
pub mod Query
pub mod Fields
pub mod Times
pub mod Default
