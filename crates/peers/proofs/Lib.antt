-- The laws of the scan over a list of addresses.
mod Scan
