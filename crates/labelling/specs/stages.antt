-- runs and spans absorbed at once
pub mod Absorbing
-- runs of ink, and labels and components by runs
pub mod InkRuns
-- what run extraction asks and gives
pub mod Extraction
-- what linking keeps and gives
pub mod Linking
-- what numbering gives
pub mod Numbering
-- the record that nine words hold, word by word
pub mod RecordParts
-- the components' records, span by span
pub mod Tallying
-- runs of one component that follow one another in a row
pub mod Spans
-- what painting asks and gives
pub mod Painting
-- the components of any mask in scratch: runs, numbers, sizes
pub mod Sizes
-- these sizes, span by span
pub mod Sizing
-- which dots count, by ink and a mark for each
pub mod Marked
-- what the stages of labelling by itself ask and leave
pub mod Working
