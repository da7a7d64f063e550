-- digits read
pub mod ReadLaws
-- where the rows of an input stand, and what a well made one is
pub mod InputLaws
-- a well made input is the text of the page that it says
pub mod InputText
-- the text of any small page is well made, and says it
pub mod PageText
-- any text told over the bytes lent
pub mod TextLaws
-- the frame of a small page, and the memory that it asks
pub mod RoomLaws
-- the chains of refusals of a small page: levelling, segmenting, reading
pub mod LeafLaws
-- the three calls on an empty store tell the text of the leaf
pub mod ShowLaws
-- what is printed by what an input says
pub mod PrintLaws
-- how long a printed text can be
pub mod ShortLaws
-- document 01's printed leaf, from the bytes of its input to the printed bytes
pub mod SampleSheet
