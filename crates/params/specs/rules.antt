-- which sheets `validate` passes
pub mod Valid
-- what is known of a sheet that it passes
pub mod Facts
-- a sheet of its eighteen numbers
pub mod Sheets
-- the show program's sheet
pub mod ShowSheets
