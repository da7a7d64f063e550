-- any text told over the bytes lent
pub mod Texts
-- the memory that a page is worked on in
pub mod Rooms
-- the page that an input says
pub mod Pages
