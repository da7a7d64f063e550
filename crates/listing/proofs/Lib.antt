-- a table's rule, computed at each entry
pub mod ComputedTable
-- digits of a number, written from the last
pub mod DigitLaws
-- texts one after the other, and what is written of them
pub mod TextLaws
-- the entries of a sheet
pub mod EntryLaws
-- the whole sheet
pub mod SheetLaws
-- on the words of a page's own segmentation the sheet is the page's
pub mod SheetOfPage
-- document 01's printed leaf, byte by byte
pub mod SampleSheet
