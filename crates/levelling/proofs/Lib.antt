-- differences of natural numbers, the lesser of two integers, signed words
pub mod Integers
-- the shear of a table that runs one way, entry by entry
pub mod ShearLaws
-- a slope from -1 to 1 and its two drifts, by sign and size
pub mod SlopeLaws
-- the frame's sides and shears for a slope from -1 to 1
pub mod FrameLaws
-- levelling and mapping back are inverse; the frame has exactly the mask's ink
pub mod InverseTheorems
-- the ink dots of a levelled plane and those of the mask pair one to one
pub mod PairTheorems
-- the entries of a shear, as the code finds them, and words held against them
pub mod ShearTests
-- the words that hold a frame's two shears, one behind the other
pub mod ShearParts
-- the frame row by row, as the code moves a plane into it
pub mod RowLaws
-- a page plane moved dot by dot
pub mod TileLaws
-- points and boxes back on the page, as the code maps them
pub mod MappingLaws
