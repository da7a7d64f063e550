-- what holds of every page: blocks, columns
pub mod Theorems
-- runs of frame columns: one more, where they lie, what they hold
pub mod ColumnLaws
-- blocks part the lines, and are numbered by first line
pub mod BlockLaws
-- tables over the front of lent words
pub mod TableWords
-- lines over a frame column, from those that start and end there
pub mod CoverLaws
-- columns in lent words, with one frame column more
pub mod ColumnWords
-- the walk that sums starts and ends
pub mod CoverSums
-- counts of starts and ends in lent words
pub mod CoverWords
-- the least gap to a candidate
pub mod GapLaws
-- medians from counts in lent words
pub mod MedianWords
-- a union-find, its pairs walked by the smaller number
pub mod PairLaws
-- blocks numbered in one pass over the parents
pub mod NumberLaws
-- the records of the blocks, with one line more
pub mod BlockWords
-- lines that belong together, and the first line of each block
pub mod TogetherLaws
-- the summary, field by field
pub mod SummaryLaws
-- pitches by blocks and in the order of the lines
pub mod PitchLaws
-- where the page dots of a frame box lie
pub mod SpanLaws
-- the frame place of a page dot, and the dots listed
pub mod DotLaws
