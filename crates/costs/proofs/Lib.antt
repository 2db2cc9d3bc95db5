-- What the test of a table gives to the calls behind it.
mod Tested
