-- Laws of lists, of words as rows, and of the loops that open and close a gap of one row.
pub mod Lists
pub mod Rows
pub mod Shifts
