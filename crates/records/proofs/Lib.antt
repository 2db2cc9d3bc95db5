-- Laws of a request's words and of the requests that words hold, for the table.
pub mod Coding
pub mod Live
