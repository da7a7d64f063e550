-- a header that tells of a segmentation
pub mod Heads
-- the lists of a store by their places
pub mod Areas
-- the numbers of a page point
pub mod Points
