-- which skew is applied, and the shears that it gives
pub mod Shears
-- the levelled frame, and where each page dot goes
pub mod Frames
-- the way back: points and boxes of the frame on the page
pub mod Mapping
-- a page plane moved into the frame: the ink mask, and `level_gray`
pub mod Planes
-- the ink dots of both planes pair one to one
pub mod Pairs
