-- tables of counts
pub mod Counts
-- what grouping asks of the words of the lines
pub mod LineBoxes
-- what the walk over the pairs of lines keeps
pub mod Joining
-- what the numbering of blocks hands on
pub mod Numbering
-- columns as a walk along the frame's columns
pub mod Covers
-- pitches in the order of the lines
pub mod Pitches
-- the dot list over words
pub mod Dots
