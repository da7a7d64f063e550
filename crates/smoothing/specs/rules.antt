-- smoothing of the glyph dots along rows
pub mod Smoothing
-- text lines, and the line of each glyph
pub mod Lines
-- lines and glyphs as words
pub mod LineRecords
