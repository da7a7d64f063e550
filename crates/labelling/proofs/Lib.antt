-- the least or the greatest of some numbers
pub mod ExtremeLaws
-- a range of numbers, with one more
pub mod RangeLaws
-- dots that touch, and runs that do
pub mod TouchLaws
-- from a naming of the runs to the labels of the dots
pub mod TransferLaws
-- the turns of a mask are its runs
pub mod TurnLaws
-- the labelling by runs: labels
pub mod RunLabelLaws
-- the labelling by runs: records
pub mod RunComponentLaws
-- a run absorbed at once
pub mod AbsorbLaws
-- a loop that writes the turns, and the room that they take
pub mod ScanLaws
-- runs linked row by row
pub mod RunLinkLaws
-- numbers in the place of parents
pub mod NumberLaws
-- turns written row by row
pub mod ExtractLaws
-- turns written and runs linked, row by row
pub mod RowLinkLaws
-- turns told a chunk at a time, then written
pub mod ToldLaws
-- turns of the dots that pass a test, by ink and marks
pub mod MarkedLaws
-- labels painted run by run
pub mod PaintLaws
-- records written span by span
pub mod TallyLaws
-- the records of the first k runs, and one span more
pub mod RecordSweepLaws
-- runs of one component that follow one another in a row
pub mod SpanLaws
-- labels and records, span by span and row by row
pub mod RowPaintLaws
-- the stages one after the other
pub mod StageLaws
-- the sizes of the first k runs' components, and one span more
pub mod SizeSweepLaws
-- these sizes, span by span and row by row
pub mod RowSizeLaws
-- which number a call is refused with, and what it leaves
pub mod EntryLaws
-- what a reader wants to know of the labelling
pub mod Theorems
-- the components of a mask in scratch: what runs, numbers and sizes tell
pub mod SizeLaws
-- runs of small masks, by computation
pub mod RunExamples
