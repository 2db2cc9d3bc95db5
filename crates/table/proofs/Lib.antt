-- Laws that the table's functions cite.
mod Moves
mod Scans
mod Searches
