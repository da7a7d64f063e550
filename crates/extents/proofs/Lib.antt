-- dots of a plane and masks of tests
pub mod MaskLaws
-- a table over the front of a list, while a loop fills it
pub mod OverLaws
-- runs of places that pass a test
pub mod RunLaws
-- extents, run by run along a row
pub mod ExtentLaws
-- entries of a function put into a part of a list
pub mod PutLaws
-- extents along columns, by counts down and up, band by band
pub mod BandLaws
-- extents of crowded rows: short runs, and counts on and back
pub mod CrowdedLaws
-- run extents called by themselves: refused, or done
pub mod AnswerLaws
