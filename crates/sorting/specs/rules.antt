-- the median, and the x-height as 01's unit
pub mod Units
-- the kind of each component and of each dot
pub mod Kinds
-- a whole ink plane sorted: cuts, components after the cut, kinds, lists and counts
pub mod Sorted
-- how many components the labellings have, for refusal 20
pub mod Capacity
