-- the order of finite floats, by what it is not
pub mod FiniteOrder
-- what a valid sheet gives
pub mod SheetLaws
