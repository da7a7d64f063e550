-- an answer as one number
pub mod Answers
-- the size of a frame
pub mod Frames
-- a box of its four numbers
pub mod Boxes
