-- what the parts of `play` do
pub mod Calls
pub mod Playing
