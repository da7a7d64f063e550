-- run extents along rows and columns
pub mod Extents
-- run extents called by themselves: refusals and outcome
pub mod Answers
