-- what the word of a labelling tells of what the call leaves
pub mod LabelAnswerLaws
-- what the word of run extents tells of an outcome
pub mod ExtentAnswerLaws
-- what the limits of levelling give, and that the words which hold a frame's shears are its own
pub mod LevelLaws
-- the way back by the words that hold both shears
pub mod MapLaws
-- what the test of thin rulings' arguments gives
pub mod RulingLaws
-- thin rulings cut and labelled: refusals, room, and what a call leaves
pub mod CutLaws
-- what the calls on a frame judge alike
pub mod FrameLaws
-- a whole segmentation: refusals, room, figures, and what a call leaves
pub mod PageLaws
-- an ink plane sorted: refusals, room, figures, and what a call leaves
pub mod SortedPageLaws
