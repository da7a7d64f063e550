-- boxes and kinds as the words of scratch hold them
pub mod Held
-- the plane of kinds, run by run
pub mod Painting
-- what a segmentation asks of the memory lent to it
pub mod Rooms
-- what the stages of writing the results ask and leave
pub mod Writing
-- the places of the lists of results
pub mod Places
