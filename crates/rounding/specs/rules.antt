-- rounding to whole numbers, the casts after it, and to six decimals
pub mod Rounding
-- the sum of a list in a fixed order
pub mod Sums
-- how far a row or a column has drifted under a slope
pub mod Drift
-- lengths in f64: a count as a float, a product rounded once, a length in whole dots
pub mod Lengths
