-- smoothing on the runs of a row
pub mod ClosedRuns
-- what smoothing on the runs of rows asks and leaves
pub mod RowRuns
-- glyphs, smoothed components and lines in the words of scratch
pub mod LineWords
-- lists of the glyphs with each label, walks along them, and what writing the lines asks
pub mod GlyphLists
-- what the stages up to the counted lines leave in scratch
pub mod Segments
