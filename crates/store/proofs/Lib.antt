-- the lists of a layout in a store, read back
pub mod ListLaws
-- what levelling accepts, and what the store then says
pub mod HeaderLaws
-- a store that holds a levelling, and the results of a segmentation
pub mod StoreLaws
-- what every layout has that is not refused
pub mod LayoutLaws
-- two calls of the same refusals, and what an accepted call has passed
pub mod ChainLaws
-- the ink of a levelled leaf
pub mod InkLaws
-- the spoiled tests over the words of records
pub mod TestLaws
-- no layout is spoiled
pub mod GenuineLaws
-- readings of a layout's words are those of the layout
pub mod ReadingLaws
-- the entries: what they judge and write is what their outcomes say
pub mod EntryLaws
-- the frame that an unspoiled store holds
pub mod HeldFrames
-- mapping a point
pub mod PointLaws
-- a gray plane, a box, a point, the frame's figures
pub mod MappingLaws
-- a header written into words
pub mod HeadLaws
-- segmenting: what the call leaves
pub mod SegmentedLaws
-- readings of results: what is told
pub mod ToldLaws
-- the figures and the lists of a store that may be read
pub mod TellLaws
-- the dots of a kind in a box
pub mod DotReads
-- the lines of a store: medians, twenty-line measure, summary
pub mod LineReads
-- the sheet of a store that may be read
pub mod SheetReads
