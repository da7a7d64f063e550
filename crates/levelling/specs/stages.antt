-- the entries of a shear, as the code finds them
pub mod Entries
-- how the code moves it
pub mod Moves
-- a corner of a box on the page
pub mod Corners
-- the lengths of what a plane is moved from and to
pub mod Rooms
-- a page plane as the code holds it
pub mod Held
