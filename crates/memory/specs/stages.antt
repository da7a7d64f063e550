-- boxes inside a frame
pub mod Boxes
-- which words of a slice a function wrote, and which it left
pub mod Stored
