-- what the functions hand on to each other
pub mod Scans
-- columns in bands of rows
pub mod Bands
