pub mod Count
pub mod Query
pub mod Laws
