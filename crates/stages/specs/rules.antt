-- what the calls on a frame judge alike
pub mod Frames
-- an answer as one word
pub mod Answers
-- labelling called by itself
pub mod LabelAnswers
-- run extents called by themselves
pub mod ExtentAnswers
-- levelling and the way back
pub mod Levels
-- thin rulings and kinds
pub mod Sorting
-- a whole segmentation
pub mod Pages
-- an ink plane sorted
pub mod SortedPages
