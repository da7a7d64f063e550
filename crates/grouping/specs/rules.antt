-- blocks of lines
pub mod Blocks
-- columns of the page
pub mod Columns
-- blocks and columns as words
pub mod BlockRecords
-- pitches, the figures of `summarize`, the dots of one kind in a box
pub mod Readings
-- lines and pitches as the words of the lines tell them
pub mod HeldLines
