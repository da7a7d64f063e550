-- the show program's input
pub mod Inputs
-- what the show program prints
pub mod Shows
