-- turns over stretches of ink and of blank dots
pub mod StretchLaws
-- the numbers of components, run by run
pub mod RunNumberLaws
-- the dots of the smoothed mask, by the glyph dots of their row
pub mod SmoothedDots
-- the words of smoothing
pub mod RowWordLaws
-- the walk over the runs of rows
pub mod RowRunLaws
-- one run more in that walk, and its ends
pub mod RowStepLaws
-- that walk as the code has it, and a row lent as parts
pub mod PageWalkLaws
-- the labels of glyphs counted
pub mod LabelCounts
-- smoothed components in the order of lines, and the number of each label
pub mod SmearLaws
-- records, ink and heights of glyphs, one component after the other
pub mod GlyphLaws
-- lists of the glyphs with each label, and walks along them
pub mod GlyphListLaws
-- what the words say of glyphs and lines is what the definitions say
pub mod LineLaws
-- the records that are written are those of the page's glyphs and lines
pub mod LineRecords
-- what scratch holds of glyphs and lines stays, and gives what the functions ask
pub mod LineRooms
-- glyphs of a sorted plane: their kind, their dots and runs, their first dots
pub mod SortedGlyphs
-- from the sorted ink to the labelled and counted glyphs, stage by stage
pub mod PageLaws
-- what holds of every page: smoothing, lines
pub mod Theorems
-- smoothing, as a walk along the row sees it
pub mod JoinLaws
-- the runs of a smoothed row
pub mod SmoothedRuns
-- the order of lines
pub mod OrderLaws
-- the lines among the smoothed components, each once
pub mod KeptLines
-- the dots of a glyph stay joined in the smoothed mask
pub mod GlyphChains
