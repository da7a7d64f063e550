-- the code's kinds and the numbers that the sort has for them
pub mod KindNumbers
-- where a segmentation keeps what it has found, in scratch
pub mod Scratch
-- what sorting an ink plane answers and leaves in scratch, whole and stage by stage
pub mod SortSteps
-- components by the five words of their sizes
pub mod Measures
-- what the functions hand on to each other
pub mod Counts
