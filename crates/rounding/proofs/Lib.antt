-- tests of the code as facts
pub mod Tests
-- the nearest whole number of a fraction
pub mod NearestWhole
-- floats with the sign turned
pub mod Signs
-- rounding: the library's, and its value
pub mod HalfAway
-- the casts after rounding, over whole numbers
pub mod RoundedCasts
-- what `round` of lib.Ieee gives, against a fraction
pub mod RoundBounds
-- the size of a drift
pub mod DriftSize
-- the drift of rows and columns
pub mod DriftLaws
-- the sum of a list, without its count of splits
pub mod SumLaws
-- worked values
pub mod Examples
