-- a table and its entries; a loop that fills one
pub mod TableLaws
-- parts of a slice that are lent, and a table filled in by parts
pub mod PartLaws
-- lists counted by place; counts of numbers that pair one to one
pub mod CountLaws
-- the number of a dot in a plane
pub mod PlaneLaws
-- one more word copied
pub mod CopyLaws
-- records: one more, and one read back
pub mod RecordLaws
-- a float written and read back
pub mod FloatLaws
-- a test that is passed
pub mod RefusalLaws
-- two lists of words held against each other
pub mod WordLaws
-- the greatest entry of a list
pub mod GreatestLaws
-- the bytes and the sides of a mask
pub mod MaskLaws
-- two tests that both pass
pub mod BoolLaws
-- those that pass a test; lists whose entries all have a property
pub mod ListLaws
-- the numbers that pass a test: their count and their places
pub mod PlaceLaws
-- one more entry of a sorted list is one more insertion
pub mod InsertLaws
-- words stored from a place on, while all others stay
pub mod StoredLaws
